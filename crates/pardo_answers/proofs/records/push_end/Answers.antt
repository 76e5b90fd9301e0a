use Rattle.std.proofs.Common.{◌∙◌, append_assoc}
use Rattle.std.proofs.lemmas.Result.{IfOk-weaker}
use Rattle.pardo_answers.proofs.records.push_end.Goals as goal

pub returns : goal.returns
returns c = IfOk-weaker c.push_gone.result _ _ (λ done put. put ∙ rw (
  c.in_ok-push_arrays.ensures,
  c.in_ok-extend_from_slice.ensures.items,
) (simp (append_assoc, c.arrays.ensures, c.procs.ensures))) c.push_gone.ensures
