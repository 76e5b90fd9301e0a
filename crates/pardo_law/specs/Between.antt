-- What the job of a program shows in the midst of lines.
use Rattle.std.specs.Prelude.{◌≡◌, ◌≢◌, ℕ, ◌+◌, ◌<◌, ◌≤◌, ◌⊎◌, slice_get, slice_index, Some}
use Rattle.pram_job.specs.declared.instr.Instr.{Instr}
use Rattle.pram_job.specs.declared.instr.Instr.TheVariants.{Pid, Halt}
use Rattle.pram_job.specs.Job.{JobData}
use Rattle.pram_machine.specs.Machine.{State, counter, halted, out_of_range}
use Rattle.pram_machine.specs.Instructions.{request_in}
use Rattle.pram_step.specs.Runs.{state_after}
use Rattle.pram_step.specs.Runs as machine
use Rattle.pardo_program.specs.Lawful.{IsProgram}
use Rattle.pardo_program.specs.Nested.{IsNested}
use Rattle.pardo_program.specs.Program.{ProgramData}
use Rattle.pardo_flat.specs.Layouts.{program_layout, private_cells}
use Rattle.pardo_job.specs.Carries.{Carries, ComesFrom}
use Rattle.pardo_job.specs.Compiled.{IsCompiled}
use Rattle.pardo_job.specs.Conflicts.{Assigns}
use Rattle.pardo_job.specs.Meaning.{Source, after}
use Rattle.pardo_job.specs.Runs.{IsProgramOver, IsLineReached, line_number}
use Rattle.pardo_job.specs.Shows.{own_cell}

-- ---- which lines are made

-- After t steps n lines are made, and no more, where the first k lines take `time k` steps. The
-- first step comes before all lines.
pub record AreLinesMade (program : ProgramData) (time : ℕ → ℕ) (t n : ℕ) : Type 0 where
  pub reached : IsLineReached program n
  pub made : (n ≡ 0) ⊎ (time n ≤ t)
  pub no_more : IsProgramOver program (after program n) ⊎ (t < time (n + 1))

-- with the steps their number never falls, so it is one
abbrev pub LinesNeverFall : Type 0
LinesNeverFall = (program : ProgramData) (time : ℕ → ℕ) (t u n m : ℕ) →
    ((k : ℕ) → time k ≤ time (k + 1)) → AreLinesMade program time t n →
    AreLinesMade program time u m →
    t ≤ u → n ≤ m

-- ---- what is shown

-- Arrays and private variables hold what they hold in the program's state.
pub record HoldsVariables (program : ProgramData) (source : Source) (state : State) : Type 0 where
  pub cells : (cell : ℕ) → cell < (program_layout program).shared →
      slice_index state cell ≡ source.cells cell
  pub privates : (x i : ℕ) → x < (program_layout program).privates → i < program.procs →
      own_cell state (private_cells (program_layout program) x) i ≡ source.privates x i

-- the instruction that processor i executes in the step after t
abbrev pub Executes : JobData → ℕ → ℕ → Instr → Type 0
Executes job t i instr = slice_get job.code (counter job (state_after job t) i) ≡ Some instr

-- In the step after t processor i executes an instruction of the line that is next; but in the
-- first step `pid`, and after the last line `halt`.
abbrev pub IsInLine : ProgramData → JobData → (ℕ → ℕ) → ℕ → Source → ℕ → Type 0
IsInLine program job line_of t source i = ComesFrom job line_of t i (line_number program source)
    ⊎ (((t ≡ 0) × Executes job t i (Pid 3))
    ⊎ (IsProgramOver program source × Executes job t i Halt))

-- In the step after t the counter of processor i comes to say that it is gone.
pub record LeavesIn (job : JobData) (t i : ℕ) : Type 0 where
  pub was_there : counter job (state_after job t) i ≢ out_of_range job
  pub is_gone : counter job (state_after job (t + 1)) i ≡ out_of_range job

-- In the step after t processor i puts this value to this cell.
abbrev pub PutsTo : JobData → ℕ → ℕ → ℕ → ℕ → Type 0
PutsTo job t cell i value = (request_in job (state_after job t) i).put ≡ Some (cell, value)

-- The job carries the program's run, and goes through its lines. After each step so many are made:
-- arrays and private variables hold what they hold after these, and who runs in the next step
-- executes the line that is next. What is put to a place of the program in that step is written in
-- that line, and who leaves in it is gone in that line.
pub record GoesThrough (program : ProgramData) (job : JobData) (line_of : ℕ → ℕ) : Type 0 where
  pub carries : Carries program job line_of
  pub made : (t : ℕ) → machine.IsReached job t → (n : ℕ) × AreLinesMade program carries.time t n
  pub holds : (t n : ℕ) → machine.IsReached job t → AreLinesMade program carries.time t n →
      HoldsVariables program (after program n) (state_after job t)
  pub lines : (t n i : ℕ) → machine.IsReached job t → AreLinesMade program carries.time t n →
      i < program.procs → counter job (state_after job t) i < halted job →
      IsInLine program job line_of t (after program n) i
  pub writes : (t n cell i value : ℕ) → machine.IsReached job t →
      AreLinesMade program carries.time t n → i < program.procs →
      cell < (program_layout program).shared →
      PutsTo job t cell i value → Assigns program (after program n) cell i value
  pub leaves : (t n i : ℕ) → machine.IsReached job (t + 1) → AreLinesMade program carries.time t n →
      i < program.procs → LeavesIn job t i →
      (after program (n + 1)).gone i ≡ Some (line_number program (after program n))

-- What the compiler makes of a lawful program whose blocks are nested goes through its lines.
abbrev pub JobsGoThrough : Type 0
JobsGoThrough = (program : ProgramData) (job : JobData) (line_of : ℕ → ℕ) →
    IsProgram program → IsNested program.lines → IsCompiled program job line_of →
    GoesThrough program job line_of
