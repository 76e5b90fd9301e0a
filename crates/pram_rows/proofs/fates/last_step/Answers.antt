use Rattle.std.proofs.Common.{arith, subst, ℕ}
use Rattle.pram_rows.proofs.Losing.{IsLastStep, last_step_within, stops_there}
use Rattle.pram_rows.proofs.fates.last_step.Goals as goal

pub returns-clause-within : goal.returns-clause-within
returns-clause-within c = last_step_within c.args.standing.now.job.now c.args.standing.now.steps _ _
    c.loop-processor.invariant

pub returns-clause-stop : goal.returns-clause-stop
returns-clause-stop c =
    let job = c.args.standing.now.job.now in
    let made = c.args.standing.now.steps in
    stops_there job made c.loop-processor.step c.limits_hold.ensures c.requires
    (subst (λ (k : ℕ). IsLastStep job made k c.loop-processor.step) (omega arith)
    c.loop-processor.invariant)
