-- After which step one processor has stopped.
use Rattle.std.specs.Prelude.{◌≡◌, ◌<◌, ◌≤◌, ℕ}
use Rattle.pram_job.specs.Job.{JobData}
use Rattle.pram_machine.specs.Machine.{counter, halted}
use Rattle.pram_step.specs.Runs.{state_after}

-- processor i has stopped after this step of the job, and not before, at its end
pub record EndsThere (job : JobData) (i step : ℕ) : Type 0 where
  pub within : step ≤ job.steps
  pub ends : counter job (state_after job step) i ≡ halted job
  pub runs : (u : ℕ) → u < step → counter job (state_after job u) i < halted job
