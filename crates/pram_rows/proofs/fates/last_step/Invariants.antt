use Rattle.pram_rows.proofs.Losing.{IsLastStep}
use Rattle.pram_rows.proofs.fates.last_step.Given as goal

abbrev pub invariant-loop-processor : goal.invariant-loop-processor
invariant-loop-processor l = IsLastStep l.standing.job.now l.standing.steps l.processor l.step
