use Rattle.walk_memory.proofs.Apart.{as_far_more, as_far_start}
use Rattle.walk_memory.proofs.together.go_together.Goals as goal

pub loop-init : goal.loop-init
loop-init c = as_far_start c.args.job.now c.args.lanes c.args.block.now

pub loop-preserved : goal.loop-preserved
loop-preserved c =
    as_far_more c.args.job.now c.args.lanes c.args.block.now c.loop.block c.go_by_form.new.block
    c.loop.invariant c.go_by_form.ensures
