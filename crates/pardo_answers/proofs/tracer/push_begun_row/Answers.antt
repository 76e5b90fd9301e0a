use Rattle.std.proofs.Common.{append_assoc}
use Rattle.pardo_answers.proofs.tracer.push_begun_row.Goals as goal

pub returns : goal.returns
returns c = rw (
  c.in_ok-extend_from_slice.ensures.items,
  c.in_ok-push_labelled-3.ensures,
  c.in_ok-push_labelled-2.ensures,
  c.in_ok-push_labelled.ensures,
) (simp append_assoc)
