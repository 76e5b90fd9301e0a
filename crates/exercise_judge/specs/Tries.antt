-- What is found of a submission under an input, and what its run takes.
use Rattle.std.specs.Prelude.{◌≡◌, ⊤, ℕ, List, MatchOption, Option, Some, None}
use Rattle.std.specs.Prelude.{IsSomeAnd, count_by, is_some, map}
use Rattle.std.specs.List.{range_with_len}
use Rattle.pram_cost.specs.Models.{IsWeakestModel}
use Rattle.pardo_job.specs.Ends.{gone_in}
use Rattle.pardo_answers.specs.Costs.{operations_in, time_in}
use Rattle.pardo_answers.specs.Runs.{IsTextRun}
use Rattle.pardo_answers.specs.declared.run.Run.{Run}
use Rattle.exercise_text.specs.Submissions.{judged_text}
use Rattle.exercise_judge.specs.declared.tried.Figures.{Figures}
use Rattle.exercise_judge.specs.declared.tried.Tried.{Tried}
use Rattle.exercise_judge.specs.declared.verdict.Wrong.{Wrong}
use Rattle.exercise_judge.specs.declared.verdict.Wrong.TheVariants as wrong
use Rattle.exercise_judge.specs.Trials.{Meets, TrialData}
use Rattle.exercise_judge.specs.Verdicts.{IsCertain}
use Rattle.exercise_judge.specs.Wrongs.{IsWrong}

-- how many of so many processors are gone
abbrev pub gone_count : ℕ → (ℕ → Option ℕ) → ℕ
gone_count procs gone = count_by is_some (map gone (range_with_len 0 procs))

-- These are the figures of a run.
pub record AreFiguresOf (run : Run) (figures : Figures) : Type 0 where
  pub gone : figures.gone ≡ gone_count run.job.procs (gone_in run.ended.lines.gone.items)
  pub time : figures.time ≡ time_in run.costs.lines.items
  pub operations : figures.operations ≡ operations_in run.costs.lines.items
  pub steps : figures.steps ≡ run.job.steps
  pub needs : IsWeakestModel run.job run.costs.cost.steps figures.needs

-- of the run of a text
abbrev pub AreFigures : List ℕ → Figures → Type 0
AreFigures text figures = (run : Run) × IsTextRun text run × AreFiguresOf run figures

-- it says that there is no run
abbrev pub IsRunless : Wrong → Type 0
IsRunless (wrong.Missing line) = ⊤
IsRunless (wrong.Program refusal) = ⊤
IsRunless wrong.Memory = ⊤
IsRunless _ = ⊥

-- the trial is met; or it is not, if that is certain, and what is said is wrong with it
abbrev pub IsOutcomeOf : TrialData → List ℕ → Option Wrong → Type 0
IsOutcomeOf trial submission None = Meets trial submission
IsOutcomeOf trial submission (Some found) =
    (IsCertain found → ¬ Meets trial submission) × IsWrong trial submission found

-- So a submission was tried under an input.
pub record IsTried (trial : TrialData) (submission : List ℕ) (tried : Tried) : Type 0 where
  pub outcome : IsOutcomeOf trial submission tried.wrong
  pub figures : MatchOption tried.figures (IsSomeAnd tried.wrong IsRunless)
      (AreFigures (judged_text trial.header submission))
