use Rattle.std.proofs.Common.{append_assoc}
use Rattle.pardo_answers.proofs.tracer.push_leaving.Goals as goal

pub returns : goal.returns
returns c = rw (
  c.in_ok-extend_from_slice.ensures.items,
  c.in_ok-push_labelled.ensures,
  c.in_ok-push_head.ensures,
) (simp (append_assoc, c.from.ensures))
