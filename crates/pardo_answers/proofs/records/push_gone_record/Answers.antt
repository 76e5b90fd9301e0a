use Rattle.std.proofs.Common.{append_assoc}
use Rattle.pardo_answers.proofs.records.push_gone_record.Goals as goal

pub returns : goal.returns
returns c = rw (
  c.in-Some.is,
  c.in_ok-push.ensures.items,
  c.in_ok-push_labelled-2.ensures,
  c.in_ok-push_labelled.ensures,
) (simp (append_assoc, c.from.ensures))
