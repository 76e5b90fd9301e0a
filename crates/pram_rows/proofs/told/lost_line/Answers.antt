use Rattle.std.proofs.Common.{◌∙◌, append_assoc}
use Rattle.std.proofs.lemmas.Result.{IfOk-weaker}
use Rattle.pram_rows.proofs.told.lost_line.Goals as goal

pub returns : goal.returns
returns c = IfOk-weaker c.format.result _ _
    (λ text written. written
    ∙ rw (c.line-line.ensures, c.in-Some.is) (simp append_assoc))
    c.format.ensures.ok
