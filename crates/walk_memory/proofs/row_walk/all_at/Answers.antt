use Rattle.std.proofs.Common.{refl}
use Rattle.walk_memory.proofs.row_walk.all_at.Goals as goal

pub returns-clause-lanes : goal.returns-clause-lanes
returns-clause-lanes c = λ k from to. rw (
  c.all_equal.ensures c.if-not-all_equal.false k from to,
  c.all_equal-2.ensures c.if-not-all_equal-2.false k from to,
  c.all_equal-3.ensures c.if-not-all_equal-3.false k from to,
  c.all_so.ensures c.if-not-all_so.false k from to,
) refl
