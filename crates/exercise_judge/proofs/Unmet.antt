-- What a submission that meets a trial says of its run.
use Rattle.std.proofs.Common.{◌≡◌, ◌∙◌, ◌<◌, ℕ, false, List, None, ap₂, subst, sym}
use Rattle.std.specs.Prelude.{IfSome, slice_index}
use Rattle.pram_job.specs.Job.{JobData}
use Rattle.pram_step.specs.declared.answer.RunAnswer.TheVariants.{Final}
use Rattle.pram_step.specs.Runs.{IsAnswer}
use Rattle.pram_cost.specs.Models.{AcceptsSteps}
use Rattle.pram_cost.specs.declared.pram.Pram.{Pram}
use Rattle.pardo_program.specs.Program.{ProgramData}
use Rattle.pardo_job.specs.Ends.{gone_in}
use Rattle.pardo_answers.specs.declared.line_costs.LineCost.{LineCost}
use Rattle.pardo_answers.specs.declared.run.Run.{Run}
use Rattle.pardo_answers.specs.Costs.{line_costs, operations_in, time_in}
use Rattle.pardo_answers.specs.Runs.{IsTextRun}
use Rattle.exercise_text.specs.Submissions.{judged_text}
use Rattle.exercise_judge.specs.Trials.{AreHeld, KeepsBar, Meets, NoneGone, TrialData}
use Rattle.exercise_judge.proofs.Costs.{all_steps}
use Rattle.exercise_judge.proofs.Ends.{final_same}
use Rattle.exercise_judge.proofs.Ends as ends
use Rattle.exercise_judge.proofs.Staying.{all_none}

module _ (trial : TrialData) (submission : List ℕ) (run : Run)
    (is : IsTextRun (judged_text trial.header submission) run) (met : Meets trial submission) where
  abbrev text : List ℕ
  text = judged_text trial.header submission

  same_program : run.program ≡ met.program
  same_program = ends.same_program text run is met.program met.job met.line_of met.cells met.ends

  same_job : run.job ≡ met.job
  same_job = ends.same_job text run is met.program met.job met.line_of met.cells met.ends

  run_ends : IsAnswer run.job (Final met.cells)
  run_ends = ends.run_ends text run is met.program met.job met.line_of met.cells met.ends

  pub same_answer : run.ended.answer ≡ Final met.cells
  same_answer = ends.same_answer text run is met.program met.job met.line_of met.cells met.ends

  pub values_too : (cells : List ℕ) → run.ended.answer ≡ Final cells →
      AreHeld trial.wanted run.program (slice_index cells)
  values_too cells answer =
      let same = final_same met.cells cells (sym same_answer ∙ answer) in
      subst (λ (p : ProgramData). AreHeld trial.wanted p (slice_index cells)) (sym same_program)
      (subst (λ (c : List ℕ). AreHeld trial.wanted met.program (slice_index c)) same met.values)

  pub there_too : trial.may_leave ≡ false → (i : ℕ) → i < run.job.procs →
      gone_in run.ended.lines.gone.items i ≡ None
  there_too stays = all_none run.job (slice_index run.numbers.items) is.1.compiled.job_is
      (gone_in run.ended.lines.gone.items) (is.1.ended.ends_in.gone run_ends.1.reached)
      (subst NoneGone (sym same_job) (met.there stays))

  lines_are : line_costs met.program met.job ≡ run.costs.lines.items
  lines_are = sym (is.1.lines ∙ ap₂ line_costs same_program same_job)

  pub costs_too : KeepsBar trial.time (time_in run.costs.lines.items)
      × KeepsBar trial.operations (operations_in run.costs.lines.items)
  costs_too = (
    subst (λ (l : List LineCost). KeepsBar trial.time (time_in l)) lines_are met.time,
    subst (λ (l : List LineCost). KeepsBar trial.operations (operations_in l)) lines_are
        met.operations,
  )

  pub steps_too : KeepsBar trial.steps run.job.steps
  steps_too = subst (λ (j : JobData). KeepsBar trial.steps j.steps) (sym same_job) met.steps

  pub model_too : IfSome trial.model (λ (allowed : Pram).
      AcceptsSteps allowed run.job run.costs.cost.steps)
  model_too = subst (λ (n : ℕ). IfSome trial.model (λ (allowed : Pram).
      AcceptsSteps allowed run.job n))
      (sym (all_steps run.job run.costs.cost met.cells is.1.cost run_ends))
      (subst (λ (j : JobData). IfSome trial.model (λ (allowed : Pram).
      AcceptsSteps allowed j j.steps)) (sym same_job) met.model)
