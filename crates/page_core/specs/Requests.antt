-- What is told of the requests of a step.
use Rattle.std.specs.Prelude.{◌≡◌, ◌⊎◌, ℕ, ◌+◌, ◌-◌, ◌*◌, ◌<◌, ◌≤◌, ◌==◌, nat_lt, if◌then◌else◌}
use Rattle.std.specs.Prelude.{List, length, slice_get, slice_index, Option, Some, None}
use Rattle.pram_job.specs.Job.{JobData}
use Rattle.pram_cost.specs.Accesses.{cell_read_by}
use Rattle.pram_machine.specs.Instructions.{request_in}
use Rattle.pram_machine.specs.Machine.{State, counter}
use Rattle.pram_step.specs.Runs.{AgreesAfter, IsReached, IsFirstConflict, state_after}
use Rattle.page_core.specs.declared.finding.Finding.{Finding}
use Rattle.page_core.specs.declared.finding.Finding.TheVariants.{Done, Conflict, NoRoom}
use Rattle.page_core.specs.declared.finding.Finding.TheVariants.{NoStep, Refused}
use Rattle.page_core.specs.declared.requests.RequestRow.{RequestRow}
use Rattle.page_core.specs.declared.requests.Target.{Target}
use Rattle.page_core.specs.declared.text.Refusal.TheVariants.{Memory}
use Rattle.page_core.specs.Moments.{IsNotReached}
use Rattle.page_core.specs.Texts.{OfJob}

-- 0 where a counter is an instruction's index, 1 where the processor has halted, 2 where an address
-- was out of range
abbrev pub processor_status : JobData → ℕ → ℕ
processor_status job counter =
    if nat_lt counter (length job.code) then 0
    else (if counter == length job.code then 1 else 2)

-- a cell plus 1, or 0 for none, and what it holds
abbrev pub cell_part : Option ℕ → ℕ
cell_part None = 0
cell_part (Some cell) = cell + 1

abbrev pub held_part : State → Option ℕ → ℕ
held_part state None = 0
held_part state (Some cell) = slice_index state cell

-- what a data write goes to: nothing, a cell, or a register of processor i; its number; the value
abbrev pub target_of_put : JobData → ℕ → Option (ℕ × ℕ) → Target
target_of_put job i None = record { kind = 0; number = 0; value = 0 }
target_of_put job i (Some put) =
    if nat_lt put.0 job.cells then record { kind = 1; number = put.0; value = put.1 }
    else record { kind = 2; number = put.0 - job.cells - 4 * i; value = put.1 }

-- the request of processor i in a state
abbrev pub row_in : JobData → State → ℕ → RequestRow
row_in job state i =
    let target = target_of_put job i (request_in job state i).put in
    record {
      counter = counter job state i;
      status = processor_status job (counter job state i);
      reads = cell_part (cell_read_by job state i);
      held = held_part state (cell_read_by job state i);
      target = target.kind;
      number = target.number;
      value = target.value;
      next = (request_in job state i).next;
    }

-- the front of the buffer holds the requests of all processors
abbrev pub AreRequestRows : JobData → State → List RequestRow → Type 0
AreRequestRows job state rows = (i : ℕ) → i < job.procs →
    slice_get rows i ≡ Some (row_in job state i)

-- ---- the step after t steps: it agrees, or is the first conflict, and the rows are told; or an
-- earlier one is, and none are

-- of a job that reaches the state after t steps, and has one step more
abbrev pub AreRequestsAfter : JobData → ℕ → List RequestRow → Finding → Type 0
AreRequestsAfter job t rows (Done step count) =
    (step ≡ t) × (t < job.steps) × (count ≡ job.procs) × IsReached job t × AgreesAfter job t
    × AreRequestRows job (state_after job t) rows
AreRequestsAfter job t rows (Conflict fault count) =
    IsFirstConflict job fault × (fault.step ≡ t + 1) × (count ≡ job.procs)
    × AreRequestRows job (state_after job t) rows
AreRequestsAfter job t rows _ = ⊥

-- of a job that reaches that state: they are told, or there is no room for them, or no step more
abbrev pub AreRequestsTold : JobData → ℕ → List RequestRow → List RequestRow → Finding → Type 0
AreRequestsTold job t old rows (NoRoom needed) = (needed ≡ job.procs) × (length old < needed)
AreRequestsTold job t old rows NoStep = job.steps ≤ t
AreRequestsTold job t old rows (Refused refusal) = refusal ≡ Memory
AreRequestsTold job t old rows finding = AreRequestsAfter job t rows finding

abbrev pub AreRequestsFound
    : List ℕ → ℕ → ℕ → List RequestRow → List RequestRow → Finding → Type 0
AreRequestsFound text t most old rows finding =
    OfJob text (λ job. AreRequestsTold job t old rows finding) ⊎ IsNotReached text t most finding
