use Rattle.pardo_job.proofs.Counted.{AreCountedSoFar}
use Rattle.pardo_job.proofs.times.counted_lines.Given as goal

abbrev pub invariant-loop-at : goal.invariant-loop-at
invariant-loop-at l = AreCountedSoFar l.program l.at l.counted.items
