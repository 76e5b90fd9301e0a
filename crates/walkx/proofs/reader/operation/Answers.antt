use Rattle.std.proofs.Common.{arith}
use Rattle.walk_memory.proofs.Boards.{length_small}
use Rattle.walkx.proofs.reader.operation.Goals as goal

pub overflow_add-result : goal.overflow_add-result
overflow_add-result c = grind (arith, length_small)
