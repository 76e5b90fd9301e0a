-- What a run on threads answers.
use Rattle.std.specs.Prelude.{◌≡◌, ◌≢◌, ◌<◌, ◌≤◌, ◌⊎◌, ℕ}
use Rattle.pram_job.specs.Job.{JobData}
use Rattle.pram_step.specs.declared.answer.RunAnswer.{RunAnswer}
use Rattle.pram_step.specs.declared.answer.RunAnswer.TheVariants.{Final, Conflict, Unfinished}
use Rattle.pram_step.specs.Runs.{IsReached, IsAnswer}
use Rattle.pram_words.specs.declared.words.Word.TheVariants as word
use Rattle.pram_words.specs.Words.{LayoutData}
use Rattle.walkx.specs.Records.{Record}
use Rattle.lawful_walk.specs.Seen.{Heard, Shows}
use Rattle.stop_plan.specs.Plan.{PlanData, StopsAll}
use Rattle.pram_board.specs.declared.task.Task.{Task}
use Rattle.pram_board.specs.Seats.{Desk, SeatData}

-- The board is for this job and for the workers of the plan, and the seat is one of it.
abbrev pub IsBoardFor : JobData → PlanData → Desk → SeatData → Type 0
IsBoardFor job plan desk seat = (desk.task.job ≡ job)
    × (desk.task.layout.workers ≡ plan.workers) × (seat.desk ≡ desk)

-- what the record has seen: the greatest step that it shows
pub record IsLastSeen (layout : LayoutData) (past : Record) (step : ℕ) : Type 0 where
  pub shows : Shows layout past step
  pub most : (t : ℕ) → Shows layout past t → t ≤ step

-- the record shows that the job is over: its last step, or a conflict
abbrev pub ShowsEnd : Task → Record → Type 0
ShowsEnd task past = Shows task.layout past task.job.steps
    ⊎ ((step : ℕ) × (step ≢ 0) × Heard task.layout past word.Conflict step)

-- The record does not show the end, and has seen this step, which is reached and below the last.
pub record IsLeftAt (task : Task) (past : Record) (step : ℕ) : Type 0 where
  pub seen : IsLastSeen task.layout past step
  pub reached : IsReached task.job step
  pub below : step < task.job.steps
  pub unended : ShowsEnd task past → ⊥

-- What the record tells of the job: its answer, where the record shows the last step, or heard word
-- 0 as the step of the conflict; and where it shows neither, how far it has seen the job.
abbrev pub Tells : Task → Record → RunAnswer → Type 0
Tells task past (Final cells) =
    IsAnswer task.job (Final cells) × Shows task.layout past task.job.steps
Tells task past (Conflict fault) = IsAnswer task.job (Conflict fault)
    × Heard task.layout past word.Conflict fault.step
Tells task past (Unfinished step) = IsLeftAt task past step

abbrev pub IsUnfinished : RunAnswer → Type 0
IsUnfinished (Final cells) = ⊥
IsUnfinished (Conflict fault) = ⊥
IsUnfinished (Unfinished step) = Unit {0}

-- The record tells it, and it is unfinished only where the plan stops every worker.
pub record IsRun (task : Task) (plan : PlanData) (past : Record) (answer : RunAnswer) : Type 0 where
  pub tells : Tells task past answer
  pub stops : IsUnfinished answer → StopsAll plan
