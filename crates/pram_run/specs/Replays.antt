-- What a replay answers.
use Rattle.std.specs.Prelude.{◌≡◌, ℕ, List, Option}
use Rattle.std.specs.Io.KnownBytes.{Appends}
use Rattle.pram_job.specs.Job.{JobData}
use Rattle.pram_step.specs.declared.answer.RunAnswer.{RunAnswer}
use Rattle.pram_streams.specs.Transfer.{AppendsBeginning}
use Rattle.stop_plan.specs.Plan.{PlanData, StopsAll}
use Rattle.stop_plan.specs.Schedule.{Events, IsSchedule, Running}
use Rattle.pram_world.specs.declared.event.Event.{Event}
use Rattle.pram_world.specs.declared.event.Event.TheVariants.{Go, Stop, Back}
use Rattle.pram_world.specs.Outcomes.{IsWorldOutcome}
use Rattle.pram_world.specs.Worlds.{start_compact, run, going}
use Rattle.pram_run.specs.declared.trace.TraceRow.{TraceRow}
use Rattle.pram_run.specs.Printed.{trace_text}
use Rattle.pram_run.specs.Running.{IsUnfinished}
use Rattle.pram_run.specs.Traces.{trace_of}

-- a world's events
abbrev pub world_events : Events Event
world_events =
    record { go = λ worker. Go worker; stop = λ worker. Stop worker; back = λ worker. Back worker }

-- whether a worker still runs after these events
abbrev pub still_runs : JobData → ℕ → Running Event
still_runs job workers events worker = going (run (start_compact job workers) events) worker

-- The outcome of the world after the plan's schedule, and the atomic steps of that run. It is
-- unfinished only where the plan stops every worker.
pub record IsReplay (job : JobData) (plan : PlanData) (answer : RunAnswer) (trace : List TraceRow) :
    Type 0 where
  pub schedule : List Event
  pub is : IsSchedule world_events (still_runs job plan.workers) plan schedule
  pub outcome : IsWorldOutcome (run (start_compact job plan.workers) schedule) answer
  pub steps : trace ≡ trace_of (start_compact job plan.workers) schedule
  pub stops : IsUnfinished answer → StopsAll plan

-- This is the answer of a replay, and the sink took its trace.
pub record TakesReplay (job : JobData) (plan : PlanData) (sink sink' : Option (List ℕ)) (answer :
    RunAnswer) : Type 0 where
  pub trace : List TraceRow
  pub is : IsReplay job plan answer trace
  pub prints : Appends sink sink' (trace_text trace)

-- The sink took a beginning of the trace of a replay.
pub record BeginsReplay (job : JobData) (plan : PlanData) (sink sink' : Option (List ℕ)) :
    Type 0 where
  pub answer : RunAnswer
  pub trace : List TraceRow
  pub is : IsReplay job plan answer trace
  pub prints : AppendsBeginning sink sink' (trace_text trace)
