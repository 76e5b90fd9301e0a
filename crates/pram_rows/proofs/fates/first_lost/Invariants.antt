use Rattle.pram_rows.proofs.Losing.{HasSearched}
use Rattle.pram_rows.proofs.fates.first_lost.Given as goal

abbrev pub invariant-loop-processor : goal.invariant-loop-processor
invariant-loop-processor l = HasSearched l.standing.job.now l.standing.steps l.processor l.lost
