-- Where a replay stands that is under way.
use Rattle.std.specs.Prelude.{◌≡◌, ◌⊎◌, ◌+◌, ◌-◌, ◌<◌, ◌≤◌, ℕ, Bool, true, false}
use Rattle.std.specs.Prelude.{List, [], ◌∷◌, ◌++◌, Option, length, replicate}
use Rattle.std.specs.Io.KnownBytes.{Appends}
use Rattle.pram_job.specs.Job.{JobData, IsJob}
use Rattle.stop_plan.specs.declared.plan.Row.{Row}
use Rattle.stop_plan.specs.Plan.{PlanData}
use Rattle.stop_plan.specs.Schedule.{after_rounds, events_of_rows}
use Rattle.walkx.specs.Bound.{own_step_bound}
use Rattle.pram_world.specs.declared.event.Event.{Event}
use Rattle.pram_world.specs.declared.event.Event.TheVariants.{Go}
use Rattle.pram_world.specs.Worlds.{going}
use Rattle.pram_run.specs.declared.schedule.Replaying.{Replaying}
use Rattle.pram_run.specs.declared.trace.TraceRow.{TraceRow}
use Rattle.pram_run.specs.Inner.Progress.{IsAfterEvents}
use Rattle.pram_run.specs.Printed.{trace_text}
use Rattle.pram_run.specs.Replays.{still_runs, world_events}

-- the events that the plan's rows still ask for
abbrev pub ahead : Replaying → List Event
ahead now = replicate now.ticks (Go now.worker) ++ events_of_rows world_events now.rows.now

-- the events of the plan's rows, and of so many rounds after them
abbrev pub with_rounds : JobData → PlanData → ℕ → List Event
with_rounds job plan count =
    after_rounds world_events (still_runs job plan.workers) plan.workers count
    (events_of_rows world_events plan.rows)

-- These events were made: those of the rows but for what is ahead, or all of them and some rounds.
abbrev pub AreEventsMade : JobData → PlanData → Replaying → List Event → Type 0
AreEventsMade job plan now made =
    ((now.rounds ≡ 0) × (made ++ ahead now ≡ events_of_rows world_events plan.rows))
    ⊎ ((now.ticks ≡ 0) × (now.rows.now ≡ []) × (made ≡ with_rounds job plan now.rounds))

-- The replay of the job under the plan stands here, and these are the steps so far.
pub record HasCome (job : JobData) (plan : PlanData) (now : Replaying) (rows : List TraceRow) :
    Type 0 where
  pub limits : IsJob job
  pub some : 1 ≤ plan.workers
  pub most : plan.workers ≤ 64
  pub workers : plan.workers ≡ now.workers
  pub made : List Event
  pub are : AreEventsMade job plan now made
  pub after : IsAfterEvents job plan.workers made now.world rows
  pub rounds : now.rounds ≤ own_step_bound job

-- a replay of some job and plan has come there, by some steps
abbrev pub IsReplayUnderWay : Replaying → Type 0
IsReplayUnderWay now =
    (job : JobData) × (plan : PlanData) × (rows : List TraceRow) × HasCome job plan now rows

-- how often it can still go on, at most
abbrev pub row_parts : List Row → ℕ
row_parts [] = 0
row_parts (row ∷ rows) = row.ticks + 1 + row_parts rows

abbrev pub parts : JobData → Replaying → ℕ
parts job now = now.ticks + row_parts now.rows.now + (own_step_bound job - now.rounds)

-- nothing is left to be done
pub record IsOver (now : Replaying) : Type 0 where
  pub ticks : now.ticks ≡ 0
  pub rows : now.rows.now ≡ []
  pub none : (worker : ℕ) → worker < now.workers → going now.world worker ≡ false

-- It has gone on, or it is over.
pub record Further (job : JobData) (plan : PlanData) (before now : Replaying) (rows : List
    TraceRow) (more : Bool) : Type 0 where
  pub come : HasCome job plan now rows
  pub fewer : more ≡ true → parts job now < parts job before
  pub over : more ≡ false → IsOver now

-- it has gone on, or it is over, wherever it stood; rows that are no longer kept stand in front
abbrev pub Advances : Replaying → List TraceRow → Replaying → List TraceRow → Bool → Type 0
Advances before rows now later more =
    (front : List TraceRow) (job : JobData) (plan : PlanData) →
    HasCome job plan before (front ++ rows) → Further job plan before now (front ++ later) more

-- The sink took the text of the first rows of it, and the others are kept.
pub record HasPrintedRows (job : JobData) (plan : PlanData) (now : Replaying) (kept : List TraceRow)
    (count : ℕ) (sink sink' : Option (List ℕ)) : Type 0 where
  pub gone : List TraceRow
  pub come : HasCome job plan now (gone ++ kept)
  pub counted : count ≡ length gone
  pub prints : Appends sink sink' (trace_text gone)
