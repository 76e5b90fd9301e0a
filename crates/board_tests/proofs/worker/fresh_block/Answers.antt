use Rattle.std.proofs.Common.{refl, arith}
use Rattle.board_tests.proofs.worker.fresh_block.Goals as goal

pub with_blocks-layout-requires-clause-grain : goal.with_blocks-layout-requires-clause-grain
with_blocks-layout-requires-clause-grain c = ((2, refl), omega arith)
