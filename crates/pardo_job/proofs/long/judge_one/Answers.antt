use Rattle.std.proofs.Common.{◌≡◌, Err, rules}
use Rattle.pardo_job.specs.Inner.Pieces.{IsLineFault}
use Rattle.pardo_job.specs.Values.{value_code}
use Rattle.pardo_job.proofs.LineParts.{fault_of_line, on_err}
use Rattle.pardo_job.proofs.long.judge_one.Goals as goal

pub returns-in_err-try_value : goal.returns-in_err-try_value
returns-in_err-try_value c =
    let e : c.from_residual.result ≡ Err c.in_err-try_value.field-0.0 = search rules in
    on_err c.from_residual.result c.in_err-try_value.field-0.0
    (IsLineFault (value_code c.args.layout.now 0 c.args.expr.now)) e
    (fault_of_line (value_code c.args.layout.now 0 c.args.expr.now)
    c.in_err-try_value.field-0.0 c.in_err-try_value.ensures.fault)
