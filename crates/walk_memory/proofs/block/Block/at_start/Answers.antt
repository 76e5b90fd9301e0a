use Rattle.std.proofs.Common.{arith}
use Rattle.walk_memory.proofs.Lanes.{start_lane}
use Rattle.walk_memory.proofs.block.Block.at_start.Goals as goal

pub returns : goal.returns
returns c = λ k. start_lane 64 k c.none.result
    (λ j from to. absurd (omega (arith, c.none.ensures, to)))
