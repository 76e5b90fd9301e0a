-- The table of instructions has each of them.
use Rattle.std.proofs.Common.{refl}
use Rattle.pram_job.specs.declared.instr.Instr.TheVariants.{Halt}
use Rattle.pram_job.specs.Laws.{InstructionsAreInTable}

pub in_table : InstructionsAreInTable
in_table Halt = refl
in_table _ = refl
