use Rattle.std.proofs.Common.{append_assoc}
use Rattle.pram_cost.proofs.cost_names.ByCellsCostNames.push_conflict.Goals as goal

pub returns : goal.returns
returns c = rw (
  c.in_ok-push.ensures.items,
  c.in_ok-push_labelled-4.ensures,
  c.in_ok-push_labelled-3.ensures,
  c.in_ok-push_labelled-2.ensures,
  c.in_ok-push_labelled.ensures,
) (simp (append_assoc, c.from.ensures, c.from-2.ensures, c.from-3.ensures, c.from-4.ensures))
