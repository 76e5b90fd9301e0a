-- How far a replay has come.
use Rattle.std.specs.Prelude.{◌≡◌, ℕ, List, [], ◌∷◌, ◌++◌, if◌then◌else◌, replicate}
use Rattle.pram_job.specs.Job.{JobData}
use Rattle.stop_plan.specs.Schedule.{after_turns}
use Rattle.pram_world.specs.declared.event.Event.{Event}
use Rattle.pram_world.specs.declared.event.Event.TheVariants.{Go}
use Rattle.pram_world.specs.Worlds.{WorldData, start_compact, run}
use Rattle.pram_run.specs.declared.trace.TraceRow.{TraceRow}
use Rattle.pram_run.specs.Replays.{still_runs, world_events}
use Rattle.pram_run.specs.Traces.{trace_of}

-- the world is the one after these events, and the rows are its atomic steps so far
pub record IsAfterEvents (job : JobData) (workers : ℕ) (events : List Event) (now : WorldData)
    (rows :
    List TraceRow) : Type 0 where
  pub world : now ≡ run (start_compact job workers) events
  pub trace : rows ≡ trace_of (start_compact job workers) events

-- whatever was made before, this has come of it; rows that are no longer kept stand in front
abbrev pub MakesProgress : WorldData → List TraceRow → WorldData → List TraceRow →
    (JobData → ℕ → List Event → List Event) → Type 0
MakesProgress before rows now later next =
    (front : List TraceRow) (job : JobData) (workers : ℕ) (events : List Event) →
    IsAfterEvents job workers events before (front ++ rows) →
    IsAfterEvents job workers (next job workers events) now (front ++ later)

-- a worker's events, and a round
abbrev pub one_step : ℕ → JobData → ℕ → List Event → List Event
one_step worker job workers events = events ++ Go worker ∷ []

abbrev pub go_on : ℕ → ℕ → JobData → ℕ → List Event → List Event
go_on worker ticks job workers events = events ++ replicate ticks (Go worker)

abbrev pub one_round : ℕ → JobData → ℕ → List Event → List Event
one_round turns job workers events =
    after_turns world_events (still_runs job workers) 0 turns events

-- the events after the turn of one worker: a step, if it still runs
abbrev pub turn : JobData → ℕ → ℕ → List Event → List Event
turn job workers worker events =
    if still_runs job workers events worker then events ++ Go worker ∷ []
    else events

abbrev pub one_turn : ℕ → JobData → ℕ → List Event → List Event
one_turn worker job workers events = turn job workers worker events
