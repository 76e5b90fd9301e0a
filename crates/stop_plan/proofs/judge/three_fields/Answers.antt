use Rattle.std.proofs.Common.{arith, sym}
use Rattle.stop_plan.proofs.Fields.{three_are, within}
use Rattle.stop_plan.proofs.judge.three_fields.Goals as goal

pub returns-in_err-get : goal.returns-in_err-get
returns-in_err-get c = absurd (within _ 0 (omega arith) (sym c.in_err-get.ensures.value))

pub returns-in_err-get-2 : goal.returns-in_err-get-2
returns-in_err-get-2 c = absurd (within _ 1 (omega arith) (sym c.in_err-get-2.ensures.value))

pub returns-in_err-get-3 : goal.returns-in_err-get-3
returns-in_err-get-3 c = absurd (within _ 2 (omega arith) (sym c.in_err-get-3.ensures.value))

pub returns : goal.returns
returns c =
    three_are _ _ _ _ (omega arith) (sym c.in_ok-get.ensures.value)
    (sym c.in_ok-get-2.ensures.value) (sym c.in_ok-get-3.ensures.value)
