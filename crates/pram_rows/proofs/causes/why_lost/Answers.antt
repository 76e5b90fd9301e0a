use Rattle.std.specs.Prelude.{MatchOption, Option, Some}
use Rattle.std.proofs.Common.{◌≡◌}
use Rattle.std.proofs.lemmas.Result.{IfOk-weaker}
use Rattle.pram_rows.specs.Causes.{IsWhyLost, cause_of}
use Rattle.pram_rows.specs.declared.causes.Cause.{Cause}
use Rattle.pram_rows.proofs.Causing.{before_reached}
use Rattle.pram_rows.proofs.LawCauses.{told_why}
use Rattle.pram_rows.proofs.causes.why_lost.Goals as goal

pub lost_cause-requires-clause-reached : goal.lost_cause-requires-clause-reached
lost_cause-requires-clause-reached c =
    let found = rw c.in-Some.is at c.in_ok-lost.ensures in
    before_reached c.args.job.now c.args.steps c.in-Some.lost found.1 found.2

pub returns-in-Some : goal.returns-in-Some
returns-in-Some c =
    let job = c.args.job.now in
    let lost = c.in-Some.lost in
    let found = rw c.in-Some.is at c.in_ok-lost.ensures in
    IfOk-weaker c.lost_cause.result (λ (cause : Option Cause). cause ≡ cause_of job (Some lost))
    (λ (cause : Option Cause). MatchOption cause _ (IsWhyLost job c.args.steps c.args.processor))
    (λ cause same. told_why job c.args.steps c.args.processor lost _ c.limits_hold.ensures found.0
    found.2 cause same) c.lost_cause.ensures
