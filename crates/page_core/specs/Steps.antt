-- What is told of what steps do.
use Rattle.std.specs.Prelude.{◌≡◌, ◌⊎◌, ℕ, ◌+◌, ◌<◌, ◌≤◌, List, length, slice_get, Some}
use Rattle.std.specs.Prelude.{count_by, find, is_some, None}
use Rattle.std.specs.List.{range_with_len}
use Rattle.pram_job.specs.Job.{JobData}
use Rattle.pram_machine.specs.Machine.{State, counter, halted}
use Rattle.pram_step.specs.Running.{is_running}
use Rattle.pram_step.specs.Runs.{IsReached, IsFirstConflict, state_after}
use Rattle.pram_cost.specs.Accesses.{cell_read_by, write_by}
use Rattle.pram_cost.specs.Costs.{at_work}
use Rattle.page_core.specs.declared.finding.Finding.{Finding}
use Rattle.page_core.specs.declared.finding.Finding.TheVariants.{Done, Conflict}
use Rattle.page_core.specs.declared.steps.StepRow.{StepRow}
use Rattle.page_core.specs.Moments.{IsNotReached}
use Rattle.page_core.specs.Texts.{OfJob}

-- how many processors read a cell in the step after a state, and how many write one
abbrev pub count_reading : JobData → State → ℕ
count_reading job state =
    count_by (λ i. is_some (cell_read_by job state i)) (range_with_len 0 job.procs)

abbrev pub count_writing : JobData → State → ℕ
count_writing job state =
    count_by (λ i. is_some (write_by job state i)) (range_with_len 0 job.procs)

-- where the first processor stands that runs; after the last instruction where none does
abbrev pub first_counter : JobData → State → ℕ
first_counter job state = elim (find (is_running job state) (range_with_len 0 job.procs)) [
  | None ↦ halted job
  | Some i ↦ counter job state i
]

-- what that step does
abbrev pub step_row : JobData → State → StepRow
step_row job state = record {
  running = at_work job state;
  reading = count_reading job state;
  writing = count_writing job state;
  at = first_counter job state;
}

-- the front of the buffer holds what so many steps after t steps do
abbrev pub AreSteps : JobData → ℕ → ℕ → List StepRow → Type 0
AreSteps job t count rows =
    (k : ℕ) → k < count → slice_get rows k ≡ Some (step_row job (state_after job (t + k)))

-- these are the rows of the steps from one on, up to t steps
abbrev pub AreStepsTo : JobData → ℕ → ℕ → List StepRow → Type 0
AreStepsTo job from t rows =
    (t ≡ from + length rows) × AreSteps job from (length rows) rows

-- of a job that reaches the state after t steps: all steps up to the last one, or as many as there
-- is room for; or those up to the first conflict
abbrev pub AreStepsAfter : JobData → ℕ → List StepRow → List StepRow → Finding → Type 0
AreStepsAfter job t old rows (Done step count) =
    (step ≡ t + count) × (step ≤ job.steps) × ((step ≡ job.steps) ⊎ (count ≡ length old))
    × IsReached job step × AreSteps job t count rows
AreStepsAfter job t old rows (Conflict fault count) =
    IsFirstConflict job fault × (fault.step ≤ job.steps) × (fault.step ≡ t + count)
    × AreSteps job t count rows
AreStepsAfter job t old rows _ = ⊥

-- what the steps after t steps do, or the state after t steps is not reached
abbrev pub AreStepsFound
    : List ℕ → ℕ → ℕ → List StepRow → List StepRow → Finding → Type 0
AreStepsFound text t most old rows finding =
    OfJob text (λ job. AreStepsAfter job t old rows finding) ⊎ IsNotReached text t most finding
