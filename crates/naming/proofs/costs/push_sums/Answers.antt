use Rattle.std.proofs.Common.{append_assoc}
use Rattle.naming.proofs.costs.push_sums.Goals as goal

pub returns : goal.returns
returns c = rw (
  c.in_ok-push.ensures.items,
  c.in_ok-push_labelled-2.ensures,
  c.in_ok-push_labelled.ensures,
) (simp (append_assoc, c.total_time.ensures, c.total_operations.ensures))
