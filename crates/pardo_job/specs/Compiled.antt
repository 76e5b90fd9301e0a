-- What the compiler makes of a program: the job of the definitions, with the steps of its run.
use Rattle.std.specs.Prelude.{◌≡◌, ℕ, ◌<◌, ◌⊎◌, true, List, slice_get, slice_index, Some}
use Rattle.pram_job.specs.Job.{JobData, IsJob}
use Rattle.pram_step.specs.declared.answer.Fault.{Fault}
use Rattle.pram_machine.specs.Machine.{AllStopped}
use Rattle.pram_step.specs.Runs.{state_after, IsReached, IsFirstConflict}
use Rattle.pardo_program.specs.declared.statement.Line.{Line}
use Rattle.pardo_program.specs.Program.{ProgramData}
use Rattle.pardo_flat.specs.Flat.{flat}
use Rattle.pardo_job.specs.declared.ended.Ended.{Ended}
use Rattle.pardo_job.specs.Lines.{job_of}
use Rattle.pardo_job.specs.Refusals.{is_level, line_numbers}

-- a job, for each of its instructions the line of the text that it came from, and how it ends
pub record CompiledData : Type 0 where
  pub job : JobData
  pub numbers : List ℕ
  pub ended : Ended

-- all processors have stopped after the job's last step, and not before
pub record Stops (job : JobData) : Type 0 where
  pub reached : IsReached job job.steps
  pub stopped : AllStopped job (state_after job job.steps)
  pub runs : (t : ℕ) → t < job.steps → AllStopped job (state_after job t) → ⊥

-- or that step is the first in conflict
abbrev pub IsWhole : JobData → Type 0
IsWhole job = Stops job ⊎ ((fault : Fault) × IsFirstConflict job fault × (fault.step ≡ job.steps))

-- each instruction is told by the number of the text's line that it came from, also the first one
-- and the last
abbrev pub AreLineNumbers : ProgramData → (ℕ → ℕ) → Type 0
AreLineNumbers program line_of = (index : ℕ) →
    line_of index ≡ slice_index (line_numbers program) index

-- three registers are enough for each line
abbrev pub AreLevel : ProgramData → Type 0
AreLevel program = (j : ℕ) (line : Line) → slice_get program.lines j ≡ Some line →
    is_level program line ≡ true

-- what the compiler makes of lines as they stand
pub record IsLinesJob (program : ProgramData) (job : JobData) (line_of : ℕ → ℕ) : Type 0 where
  pub job_is : IsJob job
  pub made : job ≡ job_of program job.steps
  pub level : AreLevel program
  pub numbers : AreLineNumbers program line_of
  pub whole : IsWhole job

-- it compiles the flat program
abbrev pub IsCompiled : ProgramData → JobData → (ℕ → ℕ) → Type 0
IsCompiled program job line_of = IsLinesJob (flat program) job line_of
