use Rattle.std.proofs.Common.{◌≡◌, List, ℕ, rules, subst}
use Rattle.pardo_job.specs.Refusals.{IsProgramRefusal}
use Rattle.exercise_text.specs.Submissions.{judged_text}
use Rattle.exercise_judge.specs.Verdicts.{IsCertain}
use Rattle.exercise_judge.proofs.Refused.{refused}
use Rattle.exercise_judge.proofs.judging.submitted_run.Goals as goal

pub returns-clause-unmet : goal.returns-clause-unmet
returns-clause-unmet c = λ certain meets.
    let text = judged_text c.args.trial.now.header c.args.submission.now in
    let same : c.as_slice-3.result.now ≡ text = search rules in
    refused text c.in-Err.refusal (subst (λ (t : List ℕ). IsProgramRefusal t c.in-Err.refusal) same
    c.in-Err.ensures.refused) (subst IsCertain (c.wrong_of.ensures.certain certain) certain)
    meets.program meets.job meets.line_of meets.ends.reads meets.ends.compiled
