use Rattle.std.proofs.Common.{◌∙◌, append_assoc}
use Rattle.std.proofs.lemmas.Result.{IfOk-weaker}
use Rattle.pram_rows.proofs.row_names.ByNumbersRowNames.array_text.Goals as goal

pub returns : goal.returns
returns c = IfOk-weaker c.format.result _ _
    (λ text written. written ∙ (rw (
      c.saturating_sub-last.ensures,
      c.from.ensures,
      c.from-first.ensures,
    ) (simp append_assoc))) c.format.ensures.ok
