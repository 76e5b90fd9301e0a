use Rattle.std.proofs.Common.{refl, arith}
use Rattle.board_tests.proofs.board.third_answer.Goals as goal

pub open_with_blocks-requires-clause-grain : goal.open_with_blocks-requires-clause-grain
open_with_blocks-requires-clause-grain c = ((2, refl), omega arith)
