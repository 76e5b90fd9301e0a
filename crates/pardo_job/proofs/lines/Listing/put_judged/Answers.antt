use Rattle.std.proofs.Common.{◌≡◌, Err, length, rules}
use Rattle.pardo_job.proofs.Great.{judged_puts}
use Rattle.pardo_job.proofs.lines.Listing.put_judged.Goals as goal

pub returns-in_err-judge : goal.returns-in_err-judge
returns-in_err-judge c =
    let e : c.from_residual.result ≡ Err c.in_err-judge.field-0.0 = search rules in
    judged_puts c.args.code.now.items c.from_residual.result c.in_err-judge.field-0.0 _ e
    (c.in_err-judge.ensures (length c.args.code.now.items))
