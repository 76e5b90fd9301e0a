use Rattle.std.proofs.Common.{◌∙◌, append_assoc}
use Rattle.std.proofs.lemmas.Result.{IfOk-weaker}
use Rattle.pram_rows.proofs.told.cause_line.Goals as goal

pub returns-in_ok-word-in-Outside : goal.returns-in_ok-word-in-Outside
returns-in_ok-word-in-Outside g c = IfOk-weaker c.format.result _ _
    (λ text written. written
    ∙ rw (c.in_ok-word-in-Outside.ensures, c.in-Some.is, c.in-Outside.is) (simp append_assoc))
    c.format.ensures.ok

pub returns-in-AboveBound : goal.returns-in-AboveBound
returns-in-AboveBound g c = IfOk-weaker c.format-in-AboveBound.result _ _
    (λ text written. written ∙ rw (c.in-Some.is, c.in-AboveBound.is) (simp append_assoc))
    c.format-in-AboveBound.ensures.ok
