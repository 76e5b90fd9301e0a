use Rattle.std.proofs.Common.{arith}
use Rattle.walk_memory.proofs.Apart.{as_far_one}
use Rattle.walk_memory.proofs.together.go_each.Goals as goal

pub loop-k-preserved : goal.loop-k-preserved
loop-k-preserved g c =
    as_far_one c.args.job.now c.args.lanes c.loop-k.k c.args.block.now c.loop-k.block
    c.go_one_at.new.block (omega arith) c.loop-k-test.true c.loop-k.invariant
    c.go_one_at.ensures.far c.go_one_at.ensures.others
