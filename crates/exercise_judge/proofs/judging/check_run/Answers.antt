use Rattle.std.proofs.Common.{◌≡◌, ◌+◌, ◌<◌, ◌^◌, ◌⊎◌, ℕ, false, All, None, refl, rules, subst}
use Rattle.std.proofs.Common.{◌∙◌, List, Some, sym}
use Rattle.std.specs.Prelude.{IfErr, IfSome, slice_index}
use Rattle.std.proofs.lemmas.Result.{IfErr-weaker}
use Rattle.pram_cost.specs.Models.{AcceptsSteps}
use Rattle.pram_cost.specs.declared.pram.Pram.{Pram}
use Rattle.pardo_program.specs.Program.{ArrayData}
use Rattle.pardo_job.specs.Ends.{gone_in}
use Rattle.exercise_text.specs.Submissions.{code_lines, judged_text}
use Rattle.exercise_judge.specs.Trials.{AreHeld, KeepsBar, Meets}
use Rattle.exercise_judge.specs.Verdicts.{IsCertain, Judges}
use Rattle.exercise_judge.specs.Wrongs.{AllowsLess, IsBeyondIn, IsWrongIn}
use Rattle.exercise_judge.specs.declared.verdict.Bar.TheVariants as bar
use Rattle.exercise_judge.specs.declared.verdict.Wrong.{Wrong}
use Rattle.exercise_judge.specs.declared.verdict.Wrong.TheVariants as wrong
use Rattle.exercise_judge.proofs.Judged.{judged_err, judged_too}
use Rattle.exercise_judge.proofs.Meeting.{met}
use Rattle.exercise_judge.proofs.Small.{arrays_small}
use Rattle.exercise_judge.proofs.Unmet.{costs_too, model_too, same_answer, steps_too, there_too}
use Rattle.exercise_judge.proofs.Unmet.{values_too}
use Rattle.exercise_judge.proofs.Wronging.{of_bar, of_conflict, of_costs, of_gone, of_model}
use Rattle.exercise_judge.proofs.Wronging.{of_value}
use Rattle.exercise_judge.proofs.judging.check_run.Goals as goal

pub check_values-requires : goal.check_values-requires
check_values-requires c = record {
  few = subst (λ (arrays : List ArrayData). All (λ (a : ArrayData). a.base < 2 ^ 63) arrays)
      (sym c.arrays.ensures)
      (arrays_small (judged_text c.args.trial.now.header c.args.submission.now)
      c.args.run.now.program c.requires.run.0);
}

pub returns-in_err-cells-clause-judged : goal.returns-in_err-cells-clause-judged
returns-in_err-cells-clause-judged c =
    let unmet : IsCertain c.in_err-cells.field-0.0 →
    Meets c.args.trial.now c.args.submission.now → ⊥ = λ certain meets.
    c.in_err-cells.ensures.err certain meets.cells
    (same_answer c.args.trial.now c.args.submission.now c.args.run.now c.requires.run meets) in
    search rules

pub returns-in_err-cells-clause-wrong : goal.returns-in_err-cells-clause-wrong
returns-in_err-cells-clause-wrong c =
    let is : IsWrongIn c.args.trial.now c.args.submission.now c.args.run.now
    c.in_err-cells.field-0.0 =
    of_conflict c.args.trial.now c.args.submission.now c.args.run.now c.in_err-cells.field-0.0
    c.in_err-cells.ensures.wrong in
    search rules

pub returns-in_err-check_values-clause-judged : goal.returns-in_err-check_values-clause-judged
returns-in_err-check_values-clause-judged c =
    let unmet : IsCertain c.in_err-check_values.field-0.0 →
    Meets c.args.trial.now c.args.submission.now → ⊥ = λ certain meets.
    let values : AreHeld c.args.trial.now.wanted c.args.run.now.program
    (slice_index c.in_ok-cells.cells.now) =
    values_too c.args.trial.now c.args.submission.now c.args.run.now c.requires.run meets
    c.in_ok-cells.cells.now c.in_ok-cells.ensures.ok in
    c.in_err-check_values.ensures.judged certain (search rules) in
    search rules

pub returns-in_err-check_values-clause-wrong : goal.returns-in_err-check_values-clause-wrong
returns-in_err-check_values-clause-wrong c =
    let found = c.in_err-check_values.field-0.0 in
    let wants : c.args.trial.now.wanted ≡ c.as_slice.result.now = search rules in
    let has : c.args.run.now.program.arrays ≡ c.arrays.result.now = search rules in
    let is : IsWrongIn c.args.trial.now c.args.submission.now c.args.run.now found =
    of_value c.args.trial.now c.args.submission.now c.args.run.now c.in_ok-cells.cells.now
    c.in_ok-cells.ensures.ok c.as_slice.result.now c.arrays.result.now wants has found
    c.in_err-check_values.ensures.wrong in
    search rules

pub returns-in_err-check_there-clause-judged : goal.returns-in_err-check_there-clause-judged
returns-in_err-check_there-clause-judged c =
    let may : c.args.trial.now.may_leave ≡ c.trial.inside.may_leave = search rules in
    let unmet : IsCertain c.in_err-check_there.field-0.0 →
    Meets c.args.trial.now c.args.submission.now → ⊥ = λ certain meets.
    c.in_err-check_there.ensures.judged certain
    (λ stays. there_too c.args.trial.now c.args.submission.now c.args.run.now c.requires.run meets
    (may ∙ stays)) in
    judged_err _ _ c.in_err-check_there.field-0.0 (search rules) unmet

pub returns-in_err-check_there-clause-wrong : goal.returns-in_err-check_there-clause-wrong
returns-in_err-check_there-clause-wrong c =
    let may : c.args.trial.now.may_leave ≡ c.trial.inside.may_leave = search rules in
    let is : IsWrongIn c.args.trial.now c.args.submission.now c.args.run.now
    c.in_err-check_there.field-0.0 =
    of_gone c.args.trial.now c.args.submission.now c.args.run.now c.trial.inside.may_leave may
    c.in_err-check_there.field-0.0 c.in_err-check_there.ensures.wrong in
    search rules

pub returns-in_err-check_costs-clause-judged : goal.returns-in_err-check_costs-clause-judged
returns-in_err-check_costs-clause-judged c =
    let unmet : IsCertain c.in_err-check_costs.field-0.0 →
    Meets c.args.trial.now c.args.submission.now → ⊥ = λ certain meets.
    c.in_err-check_costs.ensures.judged certain
    (costs_too c.args.trial.now c.args.submission.now c.args.run.now c.requires.run meets) in
    search rules

pub returns-in_err-check_costs-clause-wrong : goal.returns-in_err-check_costs-clause-wrong
returns-in_err-check_costs-clause-wrong c =
    let is : IsWrongIn c.args.trial.now c.args.submission.now c.args.run.now
    c.in_err-check_costs.field-0.0 =
    of_costs c.args.trial.now c.args.submission.now c.args.run.now c.in_err-check_costs.field-0.0
    c.in_err-check_costs.ensures.wrong in
    search rules

pub returns-in_err-check_bar-clause-judged : goal.returns-in_err-check_bar-clause-judged
returns-in_err-check_bar-clause-judged c =
    let unmet : IsCertain c.in_err-check_bar.field-0.0 →
    Meets c.args.trial.now c.args.submission.now → ⊥ = λ certain meets.
    let steps : KeepsBar c.args.trial.now.steps c.args.run.now.job.steps =
    steps_too c.args.trial.now c.args.submission.now c.args.run.now c.requires.run meets in
    c.in_err-check_bar.ensures.judged certain (search rules) in
    search rules

pub returns-in_err-check_bar-clause-wrong : goal.returns-in_err-check_bar-clause-wrong
returns-in_err-check_bar-clause-wrong c =
    let found = c.in_err-check_bar.field-0.0 in
    let less : AllowsLess bar.Steps c.args.trial.now.steps c.args.run.now.job.steps found =
    search rules in
    let is : IsWrongIn c.args.trial.now c.args.submission.now c.args.run.now found =
    of_bar c.args.trial.now c.args.submission.now c.args.run.now bar.Steps c.args.trial.now.steps
    c.args.run.now.job.steps found refl refl less in
    search rules

pub returns-in_err-check_bar-2-clause-wrong : goal.returns-in_err-check_bar-2-clause-wrong
returns-in_err-check_bar-2-clause-wrong c =
    let found = c.in_err-check_bar-2.field-0.0 in
    let less : AllowsLess bar.Lines c.args.trial.now.lines (code_lines c.args.submission.now)
    found = search rules in
    let is : IsWrongIn c.args.trial.now c.args.submission.now c.args.run.now found =
    of_bar c.args.trial.now c.args.submission.now c.args.run.now bar.Lines c.args.trial.now.lines
    (code_lines c.args.submission.now) found refl refl less in
    search rules

pub returns-clause-judged : goal.returns-clause-judged
returns-clause-judged c =
    let trial = c.args.trial.now in
    let run = c.args.run.now in
    let cells = c.in_ok-cells.cells.now in
    let values : AreHeld trial.wanted run.program (slice_index cells) = search rules in
    let there : trial.may_leave ≡ false → (i : ℕ) → i < run.job.procs →
    gone_in run.ended.lines.gone.items i ≡ None = search rules in
    let steps : KeepsBar trial.steps run.job.steps = search rules in
    let lines : KeepsBar trial.lines (code_lines c.args.submission.now) = search rules in
    let given = c.check_model.ensures.judged run.job c.requires.run.1.cost in
    let told : Judges c.check_model.result
    (IfSome trial.model (λ allowed. AcceptsSteps allowed run.job run.costs.cost.steps)) =
    search rules in
    judged_too
    (IfSome trial.model (λ allowed. AcceptsSteps allowed run.job run.costs.cost.steps))
    (Meets trial c.args.submission.now) c.check_model.result
    (met trial c.args.submission.now run cells c.requires.given c.requires.run
    c.in_ok-cells.ensures.ok values there c.in_ok-check_costs.ensures.judged.0
    c.in_ok-check_costs.ensures.judged.1 steps lines)
    (model_too trial c.args.submission.now run c.requires.run) told

pub returns-clause-wrong : goal.returns-clause-wrong
returns-clause-wrong c =
    let trial = c.args.trial.now in
    let run = c.args.run.now in
    let allows = c.trial.inside.model in
    let same : trial.model ≡ allows = search rules in
    IfErr-weaker c.check_model.result (λ (found : Wrong). (found ≡ wrong.Memory)
    ⊎ ((model : Pram) × (allows ≡ Some model) × IsBeyondIn model run found))
    (IsWrongIn trial c.args.submission.now run)
    (λ found told. of_model trial c.args.submission.now run allows same found told)
    (c.check_model.ensures.wrong c.requires.run.1.cost)
