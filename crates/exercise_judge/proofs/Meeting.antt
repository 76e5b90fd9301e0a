-- A run that passes each test meets the trial.
use Rattle.std.proofs.Common.{◌≡◌, ◌<◌, ℕ, false, List, None, subst}
use Rattle.std.specs.Prelude.{IfSome, slice_index}
use Rattle.pram_step.specs.declared.answer.RunAnswer.TheVariants.{Final}
use Rattle.pram_step.specs.Runs.{IsAnswer}
use Rattle.pram_cost.specs.Models.{AcceptsSteps}
use Rattle.pram_cost.specs.declared.pram.Pram.{Pram}
use Rattle.pardo_job.specs.Ends.{gone_in}
use Rattle.pardo_answers.specs.declared.line_costs.LineCost.{LineCost}
use Rattle.pardo_answers.specs.declared.run.Run.{Run}
use Rattle.pardo_answers.specs.Costs.{operations_in, time_in}
use Rattle.pardo_answers.specs.Runs.{IsTextRun}
use Rattle.exercise_text.specs.Submissions.{code_lines, judged_text, missing_line}
use Rattle.exercise_judge.specs.Trials.{AreHeld, KeepsBar, Meets, NoneGone, TrialData}
use Rattle.exercise_judge.proofs.Costs.{all_steps}
use Rattle.exercise_judge.proofs.Staying.{none_gone}

module _ (trial : TrialData) (submission : List ℕ) (run : Run) (cells : List ℕ)
    (given : missing_line trial.header submission ≡ None)
    (is : IsTextRun (judged_text trial.header submission) run)
    (answer : run.ended.answer ≡ Final cells) where
  ends : IsAnswer run.job (Final cells)
  ends = subst (IsAnswer run.job) answer is.1.ended.answers

  steps_are : run.costs.cost.steps ≡ run.job.steps
  steps_are = all_steps run.job run.costs.cost cells is.1.cost ends

  all_there : ((i : ℕ) → i < run.job.procs → gone_in run.ended.lines.gone.items i ≡ None) →
      NoneGone run.job
  all_there = none_gone run.job (slice_index run.numbers.items) is.1.compiled.job_is
      (gone_in run.ended.lines.gone.items) (is.1.ended.ends_in.gone ends.1.reached)

  pub met : AreHeld trial.wanted run.program (slice_index cells) →
      (trial.may_leave ≡ false → (i : ℕ) → i < run.job.procs →
      gone_in run.ended.lines.gone.items i ≡ None) →
      KeepsBar trial.time (time_in run.costs.lines.items) →
      KeepsBar trial.operations (operations_in run.costs.lines.items) →
      KeepsBar trial.steps run.job.steps → KeepsBar trial.lines (code_lines submission) →
      IfSome trial.model (λ allowed. AcceptsSteps allowed run.job run.costs.cost.steps) →
      Meets trial submission
  met values there time operations steps lines model = record {
    given = given;
    program = run.program;
    job = run.job;
    line_of = slice_index run.numbers.items;
    cells = cells;
    ends = record { reads = is.0; compiled = is.1.compiled; ends = ends };
    values = values;
    there = λ stays. all_there (there stays);
    time = subst (λ (l : List LineCost). KeepsBar trial.time (time_in l)) is.1.lines time;
    operations = subst (λ (l : List LineCost). KeepsBar trial.operations (operations_in l))
        is.1.lines operations;
    steps = steps;
    lines = lines;
    model = subst (λ (n : ℕ). IfSome trial.model (λ (allowed : Pram).
        AcceptsSteps allowed run.job n)) steps_are model;
  }
