-- Which processors run in a state, and which cells they read and write in the step after it.
use Rattle.std.specs.Prelude.{ℕ, nat_lt, if◌then◌else◌, List, slice_get}
use Rattle.std.specs.Prelude.{filter, Option, Some, None}
use Rattle.std.specs.List.{range_with_len}
use Rattle.pram_job.specs.declared.instr.Instr.{Instr}
use Rattle.pram_job.specs.Job.{JobData}
use Rattle.pram_machine.specs.Machine.{State, counter}
use Rattle.pram_machine.specs.Instructions.{cell_read, operand_held, request_in}
use Rattle.pram_step.specs.Running.{is_running}

-- the processors that run, in order
abbrev pub running_in : JobData → State → List ℕ
running_in job state = filter (is_running job state) (range_with_len 0 job.procs)

-- the cell that processor i reads by this instruction
abbrev pub cell_by : JobData → State → ℕ → Option Instr → Option ℕ
cell_by job state i None = None
cell_by job state i (Some instr) = cell_read job instr (operand_held job state i instr 0)

-- the cell that it reads
abbrev pub cell_read_by : JobData → State → ℕ → Option ℕ
cell_read_by job state i = cell_by job state i (slice_get job.code (counter job state i))

-- of what is put, what goes to a cell; a register is none
abbrev pub put_to_cell : JobData → Option (ℕ × ℕ) → Option (ℕ × ℕ)
put_to_cell job None = None
put_to_cell job (Some put) = if nat_lt put.0 job.cells then Some put else None

-- the cell that it writes, and the value
abbrev pub write_by : JobData → State → ℕ → Option (ℕ × ℕ)
write_by job state i = put_to_cell job (request_in job state i).put
