-- The theorem: the job of a program carries its run.
use Rattle.std.specs.Prelude.{◌≡◌, ℕ, ◌+◌, ◌<◌, ◌≤◌, ◌⊎◌, length, slice_index}
use Rattle.pram_job.specs.Job.{JobData, IsJob}
use Rattle.pram_machine.specs.Machine.{AllStopped}
use Rattle.pram_machine.specs.Machine.{counter}
use Rattle.pram_step.specs.Runs.{state_after, IsReached, IsFault}
use Rattle.pardo_program.specs.Program.{ProgramData}
use Rattle.pram_step.specs.declared.answer.Dispute.{Dispute}
use Rattle.pardo_flat.specs.Flat.{first_flat_of, flat}
use Rattle.pardo_flat.specs.Layouts.{program_layout}
use Rattle.pardo_job.specs.Leaving.{GoneIn}
use Rattle.pardo_job.specs.Meaning.{Source, after}
use Rattle.pardo_job.specs.Runs.{IsProgramEnd, IsProgramConflict, line_number}
use Rattle.pardo_job.specs.Runs as source
use Rattle.pardo_job.specs.Shows.{Represents}

-- the job has a state after so many steps, and it shows this state of the program
abbrev pub ShowsAfter : ProgramData → JobData → Source → ℕ → Type 0
ShowsAfter program job at_line t = IsReached job t
    × Represents program job at_line (state_after job t)

-- Shared cells, masks, and the loops and private variables of the text are the same.
pub record Shares (program : ProgramData) (source flat_source : Source) : Type 0 where
  pub cells : flat_source.cells ≡ source.cells
  pub loops : (nest : ℕ) → nest < program.loops → flat_source.loops nest ≡ source.loops nest
  pub masks : flat_source.masks ≡ source.masks
  pub privates : (x i : ℕ) → x < length program.privates →
      flat_source.privates x i ≡ source.privates x i

-- and those who are gone, and the flat program is at the first of the lines for the line that is
-- next
pub record StandsFor (program : ProgramData) (source flat_source : Source) : Type 0 where
  pub shares : Shares program source flat_source
  pub gone : flat_source.gone ≡ source.gone
  pub at : flat_source.at ≡ first_flat_of program source.at

-- the job has a state after so many steps, and it shows a state of the flat program that stands for
-- this state of the program
abbrev pub ShowsFlat : ProgramData → JobData → Source → ℕ → Type 0
ShowsFlat program job at_line t = (flat_source : Source)
    × StandsFor program at_line flat_source × ShowsAfter (flat program) job flat_source t

-- the instruction at which processor i stands before a step came from the line of this number
abbrev pub ComesFrom : JobData → (ℕ → ℕ) → ℕ → ℕ → ℕ → Type 0
ComesFrom job line_of before i number = line_of (counter job (state_after job before) i) ≡ number

-- The end of the job is that of the program; who is gone has left in the line that the program
-- says.
pub record EndsAs (program : ProgramData) (job : JobData) (line_of : ℕ → ℕ) (end : Source) :
    Type 0 where
  pub reached : IsReached job job.steps
  pub stopped : AllStopped job (state_after job job.steps)
  pub cells : (cell : ℕ) → cell < (program_layout program).shared →
      slice_index (state_after job job.steps) cell ≡ end.cells cell
  pub gone : (i : ℕ) → i < program.procs → GoneIn job line_of job.steps i (end.gone i)

-- The job makes so many steps for the lines so far, and its state shows that of the program after
-- each of them. The job ends with the program, or in its conflict.
pub record Carries (program : ProgramData) (job : JobData) (line_of : ℕ → ℕ) : Type 0 where
  pub job_is : IsJob job
  pub time : ℕ → ℕ
  pub starts : time 0 ≡ 1
  pub rises : (n : ℕ) → time n ≤ time (n + 1)
  pub shows : (n : ℕ) → source.IsLineReached program n →
      ShowsFlat program job (after program n) (time n)
  pub ends : (n : ℕ) → IsProgramEnd program n →
      EndsAs program job line_of (after program n) × (job.steps ≤ time n + 1)
  pub disputes : (n : ℕ) (dispute : Dispute) → IsProgramConflict program n dispute → (before : ℕ) ×
      (time (n + 1) ≡ before + 1) × (job.steps ≡ before + 1)
      × IsFault job (record {
        step = before + 1;
        cell = dispute.cell;
        first = dispute.first;
        second = dispute.second;
      })
      × ComesFrom job line_of before dispute.first (line_number program (after program n))
      × ComesFrom job line_of before dispute.second (line_number program (after program n))
  pub over : (n : ℕ)
      × (IsProgramEnd program n ⊎ ((dispute : Dispute) × IsProgramConflict program n dispute))
