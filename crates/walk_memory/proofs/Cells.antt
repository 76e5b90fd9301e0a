-- The cell that an instruction reads.
use Rattle.std.proofs.Common.{◌≡◌, ℕ, ◌<◌, Some, length}
use Rattle.pram_job.specs.declared.instr.Instr.{Instr}
use Rattle.pram_job.specs.declared.instr.Instr.TheVariants.{Ld}
use Rattle.pram_job.specs.Job.{JobData, IsInstr}
use Rattle.pram_machine.specs.Instructions.{cell_read}
use Rattle.pram_machine.proofs.Shapes.{reached_below}

-- only a load reads a cell
pub cell_is : (job : JobData) (instr : Instr) (a c : ℕ) →
    IsInstr job.cells (length job.code) instr → cell_read job instr a ≡ Some c → c < job.cells
cell_is job (Ld r place) a c is e = reached_below job place _ c is.1 e
cell_is job _ a c is e = absurd (cc)
