-- The flat program of a program that was compiled is lawful.
use Rattle.std.proofs.Common.{◌≡◌, ℕ, ◌+◌, ◌*◌, ◌≤◌, ap, arith, length, max}
use Rattle.std.proofs.Math.Nat.{mul_comm}
use Rattle.pram_job.specs.Job.{JobData}
use Rattle.pardo_program.specs.Lawful.{IsProgram}
use Rattle.pardo_program.specs.Program.{ProgramData, shared_cells}
use Rattle.pardo_flat.specs.Flat.{flat}
use Rattle.pardo_flat.specs.Layouts.{cell_count, program_layout}
use Rattle.pardo_flat.proofs.FlatLawful.{flat_lawful}
use Rattle.pardo_job.specs.Compiled.{IsCompiled}
use Rattle.pardo_job.specs.Lines.{job_of}

cells_within : (a b c d e : ℕ) → max 1 (a + (b + c + d) * e) ≤ 1048576 →
    a + e * (b + c + d) ≤ 1048576
cells_within a b c d e le = let same = mul_comm (b + c + d) e in omega (arith, le, same)

module _ (program : ProgramData) (job : JobData) (line_of : ℕ → ℕ) (lawful : IsProgram program)
    (compiled : IsCompiled program job line_of) where
  cells_few : shared_cells program.arrays
      + program.procs
      * (length (flat program).privates + (flat program).loops + program.choices)
      ≤ 1048576
  unfolding job_of program_layout
  cells_few =
      let few : job.cells ≤ 1048576 = compiled.job_is.cells.1 in
      let are : job.cells ≡ cell_count (program_layout (flat program)) =
      ap (λ (j : JobData). j.cells) compiled.made in
      cells_within (shared_cells program.arrays) (length (flat program).privates) (flat program).loops
      program.choices program.procs (omega (arith, few, are))

  pub compiled_lawful : IsProgram (flat program)
  compiled_lawful = flat_lawful program lawful cells_few
