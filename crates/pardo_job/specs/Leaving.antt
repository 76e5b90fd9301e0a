-- In which line of a program a processor of its job leaves: by an index out of range, or by a
-- division by 0.
use Rattle.std.specs.Prelude.{◌≡◌, ◌≢◌, ℕ, ◌+◌, ◌<◌, Option, Some, None}
use Rattle.pram_job.specs.Job.{JobData}
use Rattle.pram_machine.specs.Machine.{counter, out_of_range}
use Rattle.pram_step.specs.Runs.{state_after}

-- One of the first t steps makes the counter of processor i say so, by an instruction that came
-- from the line of this number.
pub record Leaves (job : JobData) (line_of : ℕ → ℕ) (t i number : ℕ) : Type 0 where
  pub before : ℕ
  pub within : before < t
  pub was_there : counter job (state_after job before) i ≢ out_of_range job
  pub is_gone : counter job (state_after job (before + 1)) i ≡ out_of_range job
  pub comes : line_of (counter job (state_after job before) i) ≡ number

-- after t steps processor i is gone in the line of this number, or it is there
abbrev pub GoneIn : JobData → (ℕ → ℕ) → ℕ → ℕ → Option ℕ → Type 0
GoneIn job line_of t i None = counter job (state_after job t) i ≢ out_of_range job
GoneIn job line_of t i (Some number) = Leaves job line_of t i number
