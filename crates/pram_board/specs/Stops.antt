-- After which step all processors of a job have stopped.
use Rattle.std.specs.Prelude.{◌≡◌, ◌≢◌, ◌<◌, ◌≤◌, ℕ}
use Rattle.pram_job.specs.Job.{JobData}
use Rattle.pram_machine.specs.Machine.{counter, halted}
use Rattle.pram_step.specs.Running.{IsStop}
use Rattle.pram_step.specs.Runs.{IsReached, state_after}

-- All have stopped after this step of the job, and not before, and each at its end: none by an
-- address out of range.
pub record StopsThere (job : JobData) (step : ℕ) : Type 0 where
  pub within : step ≤ job.steps
  pub reached : IsReached job step
  pub stop : IsStop job step
  pub ends : (i : ℕ) → i < job.procs → counter job (state_after job step) i ≡ halted job

-- some processor is not at its end after the last step
pub record EndsApart (job : JobData) : Type 0 where
  pub processor : ℕ
  pub within : processor < job.procs
  pub apart : counter job (state_after job job.steps) processor ≢ halted job
