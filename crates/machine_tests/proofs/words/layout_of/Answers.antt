use Rattle.std.proofs.Common.{refl, arith}
use Rattle.machine_tests.proofs.words.layout_of.Goals as goal

pub with_blocks-requires-in-fours-clause-grain : goal.with_blocks-requires-in-fours-clause-grain
with_blocks-requires-in-fours-clause-grain c = ((2, refl), omega arith)
