-- How a text is refused.
use Rattle.std.specs.Prelude.{◌≡◌, ℕ, ◌+◌, ◌/◌, ◌<◌, min, Bool, true, false, nat_le, ◌&&◌, IsTrue}
use Rattle.std.specs.Prelude.{List, [], ◌∷◌, ◌++◌, replicate, slice_get, slice_index, Some, Ok}
use Rattle.pram_job.specs.declared.limits.TheConstants.{MAX_CODE}
use Rattle.pram_job.specs.Job.{JobData}
use Rattle.pram_machine.specs.Machine.{State, counter, IsStopped}
use Rattle.pram_step.specs.Runs.{state_after, IsReached}
use Rattle.pardo_program.specs.declared.statement.Line.{Line}
use Rattle.pardo_program.specs.Program.{ProgramData}
use Rattle.pardo_text.specs.Reading.{program_of, IsReaderRefusal as IsTextRefusal}
use Rattle.pardo_flat.specs.Flat.{IsTooWide, flat}
use Rattle.pardo_job.specs.declared.fault.JobKind.{JobKind}
use Rattle.pardo_job.specs.declared.fault.JobKind.TheVariants.{TooDeep, TooLong, Endless, Memory}
use Rattle.pardo_job.specs.declared.fault.JobKind.TheVariants.{TooManyCells}
use Rattle.pardo_job.specs.declared.fault.Refusal.{Refusal}
use Rattle.pardo_job.specs.declared.fault.Refusal.TheVariants.{Text, Job}
use Rattle.pardo_job.specs.declared.limits.TheConstants.{MAX_STEPS, MAX_WORK}
use Rattle.pardo_job.specs.Lines.{job_of, length_of_line, line_code, place_of}
use Rattle.pardo_job.specs.Operations.{is_shallow}

-- ---- lines

-- the numbers of the text's lines that the instructions of these lines came from; the last
-- instruction, `halt`, is counted to the last line
abbrev pub numbers_from : ProgramData → ℕ → List Line → List ℕ
numbers_from program last [] = last ∷ []
numbers_from program last (line ∷ lines) =
    replicate (length_of_line program line) line.number ++ numbers_from program line.number lines

-- those of all instructions; the first one, `pid`, came from no line
unfoldable pub line_numbers : ProgramData → List ℕ
line_numbers program = 0 ∷ numbers_from program 0 program.lines

-- ---- lines that are too great

-- three registers are enough for the line
abbrev pub is_level : ProgramData → Line → Bool
is_level program line = is_shallow (line_code program (λ j. 0) 0 line.depth line.statement)

-- the code up to the line j, and one instruction after it, is not too long
abbrev pub is_short : ProgramData → ℕ → Bool
is_short program j = nat_le (place_of program (j + 1) + 1) MAX_CODE

-- the lines before the line j are neither too deep nor too long
abbrev pub AreFine : ProgramData → ℕ → Type 0
AreFine program j = (k : ℕ) (line : Line) → k < j → slice_get program.lines k ≡ Some line →
    IsTrue (is_level program line && is_short program k)

-- this line is the first that is too deep or too long, and whether it is level
pub record IsTooGreat (program : ProgramData) (number : ℕ) (level : Bool) : Type 0 where
  pub j : ℕ
  pub line : Line
  pub is_there : slice_get program.lines j ≡ Some line
  pub number_is : number ≡ line.number
  pub before : AreFine program j
  pub level_is : is_level program line ≡ level
  pub unfit : (is_level program line && is_short program j) ≡ false

-- ---- refusals

-- the first processor that has not stopped stands at this instruction
pub record FirstRunningStandsAt (job : JobData) (state : State) (index : ℕ) : Type 0 where
  pub first : ℕ
  pub is_processor : first < job.procs
  pub runs : IsStopped job state first → ⊥
  pub least : (i : ℕ) → i < first → IsStopped job state i
  pub stands : counter job state first ≡ index

-- so many steps are made at most, and no more of all processors together than MAX_WORK
unfoldable pub most_steps : JobData → ℕ
most_steps job = min MAX_STEPS (MAX_WORK / job.procs)

-- after as many steps as are made at most the program runs, and stands at this line
pub record IsEndless (program : ProgramData) (number : ℕ) : Type 0 where
  pub reached : IsReached (job_of program 0) (most_steps (job_of program 0))
  pub index : ℕ
  pub runs : FirstRunningStandsAt (job_of program 0)
      (state_after (job_of program 0) (most_steps (job_of program 0))) index
  pub number_is : number ≡ slice_index (line_numbers program) index

-- what is wrong with these lines as they stand; memory that ran out is no line's
abbrev pub IsLinesFault : ProgramData → ℕ → JobKind → Type 0
IsLinesFault program number TooDeep = IsTooGreat program number false
IsLinesFault program number TooLong = IsTooGreat program number true
IsLinesFault program number Endless = IsEndless program number
IsLinesFault program number Memory = number ≡ 0
IsLinesFault program number TooManyCells = ⊥

-- what is wrong with a program, whose flat program is compiled
abbrev pub IsProgramFault : ProgramData → ℕ → JobKind → Type 0
IsProgramFault program number TooManyCells = IsTooWide program number
IsProgramFault program number kind = IsLinesFault (flat program) number kind

-- the text spells no program, or one that is no job
abbrev pub IsProgramRefusal : List ℕ → Refusal → Type 0
IsProgramRefusal text (Text fault) = IsTextRefusal text fault
IsProgramRefusal text (Job fault) = (program : ProgramData) × (program_of text ≡ Ok program)
    × IsProgramFault program fault.line fault.kind
