use Rattle.pardo_job.proofs.Placed.{IsCodeSoFar}
use Rattle.pardo_job.proofs.lines.Listing.code.Given as goal

abbrev pub invariant-loop-line : goal.invariant-loop-line
invariant-loop-line l = IsCodeSoFar l.self.program.now l.line-index l.code.items
