-- What each processor executed last.
use Rattle.std.specs.Prelude.{◌≡◌, ℕ, zero, suc, ◌<◌, if◌then◌else◌}
use Rattle.std.specs.Prelude.{List, slice_get, Some}
use Rattle.pram_job.specs.Job.{JobData}
use Rattle.pram_machine.specs.Machine.{counter}
use Rattle.pram_step.specs.declared.last.LastRow.{LastRow}
use Rattle.pram_step.specs.Running.{is_running}
use Rattle.pram_step.specs.Runs.{state_after}

-- the last of the first t steps in which processor i runs, and the index of the instruction that it
-- executes in it; 0 where it runs in none
unfoldable pub last_row : JobData → ℕ → ℕ → LastRow
last_row job zero i = record { step = 0; index = 0 }
last_row job (suc t) i =
    if is_running job (state_after job t) i
    then record { step = suc t; index = counter job (state_after job t) i }
    else last_row job t i

-- these are those of all processors
abbrev pub AreLast : JobData → ℕ → List LastRow → Type 0
AreLast job t rows = (i : ℕ) → i < job.procs → slice_get rows i ≡ Some (last_row job t i)
