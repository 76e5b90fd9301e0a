-- Rows that are printed of a job's steps.
use Rattle.std.specs.Prelude.{ℕ, ◌+◌, ◌-◌, min, List, ◌++◌}
use Rattle.std.specs.List.{flat_map, range_with_len}
use Rattle.pram_job.specs.Job.{JobData}
use Rattle.pram_machine.specs.Machine.{State}
use Rattle.pram_step.specs.Runs.{state_after}

-- What is printed: a header, and the rows of each step, by the state in which it is made, and by
-- its number.
pub record StepRows : Type 0 where
  pub header : List ℕ
  pub of_step : JobData → State → ℕ → List ℕ

-- the rows of the step after t steps
abbrev pub step_rows : StepRows → JobData → ℕ → List ℕ
step_rows rows job t = rows.of_step job (state_after job t) (t + 1)

-- the rows of so many steps after t steps
abbrev pub rows_after : StepRows → JobData → ℕ → ℕ → List ℕ
rows_after rows job t count = flat_map (step_rows rows job) (range_with_len t count)

-- the header, and the rows of the steps from one to another, those that there are: the last of all
-- is `last`
abbrev pub window_rows : StepRows → JobData → ℕ → ℕ → ℕ → List ℕ
window_rows rows job from to last =
    rows.header ++ rows_after rows job (from - 1) (min to last - (from - 1))
