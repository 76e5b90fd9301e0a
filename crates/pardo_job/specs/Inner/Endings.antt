-- What a run finds.
use Rattle.std.specs.Prelude.{◌≡◌, ℕ, List, Option, slice_index, unwrap_or}
use Rattle.pram_job.specs.Job.{JobData}
use Rattle.pram_machine.specs.Machine.{State}
use Rattle.pram_step.specs.declared.last.LastRow.{LastRow}
use Rattle.pram_step.specs.Last.{AreLast}
use Rattle.pram_step.specs.Runs.{state_after, IsFirstConflict, IsReached, IsStateAfter}
use Rattle.pram_step.specs.Running.{IsStop}
use Rattle.pram_step.specs.Walks.{IsSeenUntil}
use Rattle.pardo_job.specs.Compiled.{CompiledData, IsWhole}
use Rattle.pardo_job.specs.Ends.{HasEnded}
use Rattle.pardo_job.specs.declared.fault.JobKind.{JobKind}
use Rattle.pardo_job.specs.declared.fault.JobKind.TheVariants.{Endless, Memory}
use Rattle.pardo_job.specs.declared.run.Rest.{Rest}
use Rattle.pardo_job.specs.declared.run.Run.{Run}
use Rattle.pardo_job.specs.declared.run.Run.TheVariants as run
use Rattle.pardo_job.specs.Refusals.{FirstRunningStandsAt, most_steps}

-- all have stopped after so many steps, and not after fewer, in this state
pub record IsRest (job : JobData) (rest : Rest) : Type 0 where
  pub after : IsStateAfter job rest.steps rest.state
  pub stop : IsStop job rest.steps
  pub last : AreLast job rest.steps rest.last.items

-- the job is over, or some processor runs after as many steps as are made at most
abbrev pub IsBoundedRun : JobData → Run → Type 0
IsBoundedRun job (run.Stopped rest) = IsRest job rest
IsBoundedRun job (run.Disputed fault last) = IsFirstConflict job fault
    × AreLast job fault.step last.items
IsBoundedRun job (run.Endless index) =
    IsReached job (most_steps job)
    × FirstRunningStandsAt job (state_after job (most_steps job)) index

-- this is so of the steps of a job that is over
abbrev pub IsSeenBy : Run → (ℕ → Type 0) → Type 0
IsSeenBy (run.Stopped rest) has_seen = has_seen rest.steps
IsSeenBy (run.Disputed fault last) has_seen = has_seen fault.step
IsSeenBy (run.Endless index) has_seen = Unit {0}

-- The run was not disputed, and where it is over it has so many steps, or as many as are made at
-- most.
abbrev pub IsLong : JobData → Option ℕ → Run → Type 0
IsLong job stopped (run.Stopped rest) = rest.steps ≡ unwrap_or stopped (most_steps job)
IsLong job stopped (run.Disputed fault last) = ⊥
IsLong job stopped (run.Endless index) = Unit {0}

-- as many steps as are made at most lead to this state; and what was seen of them
abbrev pub IsThrough : JobData → Option ℕ → State → List LastRow → Type 0
IsThrough job stopped state last = IsStateAfter job (most_steps job) state
    × IsSeenUntil job (most_steps job) stopped (λ n. AreLast job n last)

-- the job with as many steps as it needs, these numbers, and how it ends
pub record IsFinished (job : JobData) (numbers : List ℕ) (compiled : CompiledData) : Type 0 where
  pub job_is : compiled.job ≡ record job { steps = compiled.job.steps }
  pub numbers_are : compiled.numbers ≡ numbers
  pub whole : IsWhole compiled.job
  pub ended : HasEnded compiled.job (slice_index numbers) compiled.ended

-- the job is over too late, or memory ran out
abbrev pub EndsTooLate : JobData → List ℕ → ℕ → JobKind → Type 0
EndsTooLate job numbers number Endless = IsReached job (most_steps job) × ((index : ℕ) ×
    FirstRunningStandsAt job (state_after job (most_steps job)) index
    × (number ≡ slice_index numbers index))
EndsTooLate job numbers number Memory = number ≡ 0
EndsTooLate job numbers number _ = ⊥
