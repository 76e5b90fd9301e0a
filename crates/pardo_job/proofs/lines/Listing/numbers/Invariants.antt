use Rattle.pardo_job.proofs.Placed.{AreNumbersSoFar}
use Rattle.pardo_job.proofs.lines.Listing.numbers.Given as goal

abbrev pub invariant-loop-index : goal.invariant-loop-index
invariant-loop-index l = AreNumbersSoFar l.self.program.now l.index l.last l.numbers.items
