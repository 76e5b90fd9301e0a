-- The job of a program before it is run, and what comes of it.
use Rattle.std.specs.Prelude.{◌≡◌, ℕ, ◌<◌, List, length, slice_index}
use Rattle.pram_job.specs.declared.limits.TheConstants.{MAX_CODE}
use Rattle.pram_job.specs.Job.{JobData}
use Rattle.pardo_program.specs.Lawful.{IsProgram}
use Rattle.pardo_program.specs.Program.{ProgramData}
use Rattle.pardo_flat.specs.Flat.{first_flat_of, flat}
use Rattle.pardo_job.specs.Compiled.{AreLevel, CompiledData, IsCompiled}
use Rattle.pardo_job.specs.Ends.{HasEnded}
use Rattle.pardo_job.specs.Lines.{job_of, place_of}
use Rattle.pardo_job.specs.Refusals.{line_numbers}

-- the job of these lines as they stand, without steps, and the number of the line of each
-- instruction
pub record IsLinesDraft (program : ProgramData) (job : JobData) (numbers : List ℕ) : Type 0 where
  pub lawful : IsProgram program
  pub made : job ≡ job_of program 0
  pub level : AreLevel program
  pub numbers_are : numbers ≡ line_numbers program

-- the job of the program without steps is that of the flat one
abbrev pub IsDraft : ProgramData → JobData → List ℕ → Type 0
IsDraft program job numbers = IsLinesDraft (flat program) job numbers

-- the job with as many steps as it needs, and how it ends
pub record IsComplete (program : ProgramData) (compiled : CompiledData) : Type 0 where
  pub job : IsCompiled program compiled.job (slice_index compiled.numbers)
  pub ended : HasEnded compiled.job (slice_index compiled.numbers) compiled.ended

-- where the code of each of these lines begins; it is short
pub record AreLinePlaces (program : ProgramData) (places : List ℕ) : Type 0 where
  pub each : (j : ℕ) → j < length program.lines → slice_index places j ≡ place_of program j
  pub short : place_of program (length program.lines) < MAX_CODE

-- where that of each line of the program begins, or that of the hidden lines before it
pub record ArePlacesOf (program : ProgramData) (places : List ℕ) : Type 0 where
  pub each : (j : ℕ) → j < length program.lines →
      slice_index places j ≡ place_of (flat program) (first_flat_of program j)
  pub short : place_of (flat program) (length (flat program).lines) < MAX_CODE
