use Rattle.std.proofs.Common.{◌≡◌, ◌++◌, List, ℕ, rules, subst}
use Rattle.pardo_job.specs.Refusals.{IsProgramRefusal}
use Rattle.exercise_judge.proofs.Refused.{refused}
use Rattle.exercise_judge.proofs.reference.wanted_by_reference.Goals as goal

pub returns-clause-none : goal.returns-clause-none
returns-clause-none c = λ certain wanted are.
    let text = c.args.header.now ++ c.args.reference.now in
    let same : c.as_slice.result.now ≡ text = search rules in
    refused text c.in-Err.refusal (subst (λ (t : List ℕ). IsProgramRefusal t c.in-Err.refusal) same
    c.in-Err.ensures.refused) certain are.program are.job are.line_of are.ends.reads
    are.ends.compiled
