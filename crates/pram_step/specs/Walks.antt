-- A walk over the steps of a job, on which somebody looks.
use Rattle.std.specs.Prelude.{ℕ, ◌+◌, ◌<◌, ◌≤◌, ◌^◌, Option, Some, None, MatchOption}
use Rattle.pram_job.specs.Job.{JobData}
use Rattle.pram_machine.specs.Machine.{State}
use Rattle.pram_step.specs.Running.{AreRunning, IsStop, Repeats, RunsBefore, SameCounters}
use Rattle.pram_step.specs.Runs.{IsStateAfter, IsFirstConflict, state_after}
use Rattle.pram_step.specs.declared.answer.Fault.{Fault}
use Rattle.pram_step.specs.declared.walks.Sight.{Sight}
use Rattle.pram_step.specs.declared.walks.Walked.{Walked}
use Rattle.pram_step.specs.declared.walks.Walked.TheVariants.{Through, Disputed}

-- ---- what is seen before some steps

-- some steps, one at least, begin in the state after those made, in which no others run
pub record IsSight (sight : Sight) : Type 0 where
  pub after : IsStateAfter sight.job.now sight.made sight.state.now
  pub some : 0 < sight.times
  pub fits : sight.made + sight.times < 2 ^ 32
  pub repeats : Repeats sight.job.now sight.made sight.times sight.state.now
  pub running : AreRunning sight.job.now sight.state.now sight.running.now

-- ---- what a walk comes to

-- the state after t steps, or the first conflict up to them
abbrev pub IsWalked : JobData → ℕ → Walked → Type 0
IsWalked job t (Through state) = IsStateAfter job t state
IsWalked job t (Disputed fault) = IsFirstConflict job fault × (fault.step ≤ t)

-- Steps that are made in a state lead to that after t steps. Or they lead to the first conflict up
-- to them, and each processor then stands where it goes in that step.
abbrev pub LeadsTo : JobData → ℕ → State → Option Fault → Type 0
LeadsTo job t state None = IsStateAfter job t state
LeadsTo job t state (Some fault) = IsFirstConflict job fault × (fault.step ≤ t)
    × SameCounters job (state_after job fault.step) state

-- how many of t steps are begun: all, or those up to a conflict
abbrev pub begun_before : ℕ → Option Fault → ℕ
begun_before t None = t
begun_before t (Some fault) = fault.step

-- how many of t steps are begun
abbrev pub begun : ℕ → Walked → ℕ
begun t (Through state) = t
begun t (Disputed fault) = fault.step

-- Of t steps, those before all have stopped have been seen.
abbrev pub IsSeenUntil : JobData → ℕ → Option ℕ → (ℕ → Type 0) → Type 0
IsSeenUntil job t stopped has_seen =
    MatchOption stopped (RunsBefore job t × has_seen t)
    (λ n. (n < t) × IsStop job n × has_seen n)
