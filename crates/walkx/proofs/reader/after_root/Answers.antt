use Rattle.std.proofs.Common.{arith}
use Rattle.walkx.specs.Reads.{reader_script}
use Rattle.walk_memory.proofs.Boards.{root_most}
use Rattle.walkx.proofs.reader.after_root.Goals as goal

pub seen_step-requires : goal.seen_step-requires
unfolding reader_script
seen_step-requires c = grind (arith, root_most)

pub returns-then-root-eq0-clause-stage : goal.returns-then-root-eq0-clause-stage
unfolding reader_script
returns-then-root-eq0-clause-stage c = grind (arith, root_most)
