use Rattle.std.proofs.Common.{◌∙◌, append_assoc, le-leb}
use Rattle.std.proofs.lemmas.Result.{IfOk-weaker}
use Rattle.naming.proofs.rounds.round_told.Goals as goal

pub returns-in-For : goal.returns-in-For
returns-in-For c = IfOk-weaker c.format.result _ _
    (λ text written. written
    ∙ rw (
      c.variable_value-value.ensures,
      c.in-For.is,
      le-leb c.args.at c.in-For.end c.if-at-end.true,
    ) (simp append_assoc))
    c.format.ensures.ok
