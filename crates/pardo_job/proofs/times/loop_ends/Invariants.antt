use Rattle.pardo_job.proofs.Counted.{AreEndsSoFar}
use Rattle.pardo_job.proofs.times.loop_ends.Given as goal

abbrev pub invariant-loop-at : goal.invariant-loop-at
invariant-loop-at l = AreEndsSoFar l.program l.at l.ends.items
