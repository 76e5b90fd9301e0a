use Rattle.std.proofs.Common.{length}
use Rattle.pardo_text.proofs.Left.{AreCounted}
use Rattle.pardo_text.proofs.token.count_tokens.Given as goal

abbrev pub invariant-loop-first : goal.invariant-loop-first
invariant-loop-first l = AreCounted l.line l.rest l.count

abbrev pub decreases-loop-first : goal.decreases-loop-first
decreases-loop-first l = length l.rest
