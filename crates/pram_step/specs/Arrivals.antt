-- What going from the start comes to.
use Rattle.std.specs.Prelude.{◌≡◌, ℕ, ◌+◌, ◌<◌, ◌≤◌, Option, Some, None}
use Rattle.pram_job.specs.Job.{JobData}
use Rattle.pram_step.specs.declared.answer.Fault.{Fault}
use Rattle.pram_step.specs.declared.arrival.Arrival.{Arrival}
use Rattle.pram_step.specs.declared.arrival.Arrival.TheVariants.{Reached, Disputed, TooFar}
use Rattle.pram_machine.specs.Machine.{State}
use Rattle.pram_step.specs.Runs.{IsReached, IsStateAfter, IsFirstConflict}

-- what is there after t steps: the state, or the first conflict up to them, or as many steps were
-- made as the caller allows
abbrev pub IsArrival : JobData → ℕ → ℕ → Arrival → Type 0
IsArrival job t most (Reached state) = IsStateAfter job t state
IsArrival job t most (Disputed fault) = IsFirstConflict job fault × (fault.step ≤ t)
IsArrival job t most TooFar = (most < t) × IsReached job most

-- the step after t steps was made, and led to this state; or it is the first conflict
abbrev pub IsStepMade : JobData → ℕ → State → Option Fault → Type 0
IsStepMade job t state None = IsStateAfter job (t + 1) state
IsStepMade job t state (Some fault) = IsFirstConflict job fault × (fault.step ≡ t + 1)
