-- The laws of jobs.
use Rattle.std.specs.Prelude.{◌≡◌, true, Some}
use Rattle.std.specs.Option.{option_and_then}
use Rattle.pram_job.specs.declared.instr.Instr.{Instr}
use Rattle.pram_job.specs.Instructions.{Form, form_named, made_with, row_of, table}
use Rattle.pram_job.specs.declared.limits.TheConstants.{MAX_CELLS, MAX_PROCS, MAX_CODE, REGISTERS}

-- cells, processors, instructions and registers
abbrev pub LimitsAre : Type 0
LimitsAre = (MAX_CELLS ≡ 1048576) × (MAX_PROCS ≡ 65536) × (MAX_CODE ≡ 4096) × (REGISTERS ≡ 4)

-- By its name in a text, and what stands after that, an instruction is found again in the table.
abbrev pub InstructionsAreInTable : Type 0
InstructionsAreInTable = (instr : Instr) →
    option_and_then (λ (form : Form). made_with form (row_of instr).1)
    (form_named (table true) (row_of instr).0) ≡ Some instr
