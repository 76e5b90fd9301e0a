use Rattle.std.proofs.Common.{[], subst, sym}
use Rattle.pram_run.specs.Inner.Underway.{HasCome}
use Rattle.pram_run.proofs.Whole.{ended}
use Rattle.pram_run.proofs.schedule.replay.Goals as goal

pub advance-requires : goal.advance-requires
advance-requires c = (c.args.job.now, c.args.plan.now, c.loop-trace.trace, c.loop-trace.invariant)

pub loop-trace-init : goal.loop-trace-init
loop-trace-init c =
    subst (λ rows. HasCome c.args.job.now c.args.plan.now c.in_ok-replaying.replaying rows)
    (sym c.new-trace.ensures) c.in_ok-replaying.ensures

pub loop-trace-smaller : goal.loop-trace-smaller
loop-trace-smaller c =
    (c.in_ok-advance.ensures [] c.args.job.now c.args.plan.now c.loop-trace.invariant).fewer
    c.if-branch.true

pub loop-trace-preserved : goal.loop-trace-preserved
loop-trace-preserved c =
    (c.in_ok-advance.ensures [] c.args.job.now c.args.plan.now c.loop-trace.invariant).come

pub returns : goal.returns
returns c =
    let far = c.in_ok-advance.ensures [] c.args.job.now c.args.plan.now c.loop-trace.invariant in
    ended c.args.job.now c.args.plan.now _ _ _ far.come (far.over c.if-branch.false)
    c.in_ok-answer.ensures
