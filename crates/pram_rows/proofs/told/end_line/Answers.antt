use Rattle.std.proofs.Common.{◌∙◌, append_assoc}
use Rattle.std.proofs.lemmas.Result.{IfOk-weaker}
use Rattle.pram_rows.proofs.told.end_line.Goals as goal

pub returns-in-Running : goal.returns-in-Running
returns-in-Running c = IfOk-weaker c.format.result _ _
    (λ text written. written
    ∙ rw (c.line-line.ensures, c.in-Some.is, c.in-Running.is) (simp append_assoc))
    c.format.ensures.ok
