-- What is told of programs of `pardo`.
use Rattle.std.specs.Prelude.{◌≡◌, ◌⊎◌, ℕ, ◌+◌, ◌-◌, ◌<◌, ◌==◌, false, nat_lt, if◌then◌else◌}
use Rattle.std.specs.Prelude.{List, [], ◌++◌, length, map, take, slice_get, slice_index}
use Rattle.std.specs.Prelude.{Some, None, Ok, unwrap_or}
use Rattle.std.specs.List.{flat_map, range_with_len}
use Rattle.pram_job.specs.declared.instr.Array.{Array}
use Rattle.pram_job.specs.Job.{JobData}
use Rattle.text_lines.specs.Lines.{Word}
use Rattle.pram_text.specs.Text.{Spells}
use Rattle.pardo_text.specs.declared.fault.PardoKind.{PardoKind}
use Rattle.pardo_text.specs.declared.fault.PardoKind.TheVariants.{NotAscii, BadSymbol, BadHeader}
use Rattle.pardo_text.specs.declared.fault.PardoKind.TheVariants.{BadLine, UnknownName}
use Rattle.pardo_text.specs.declared.fault.PardoKind.TheVariants.{DuplicateName, WrongKind}
use Rattle.pardo_text.specs.declared.fault.PardoKind.TheVariants.{OutOfLimits}
use Rattle.pardo_text.specs.declared.fault.PardoKind.TheVariants.{WrongLength, TooManyCells}
use Rattle.pardo_text.specs.declared.fault.PardoKind.TheVariants.{BadBlock, OpenBlock, NoCode}
use Rattle.pardo_text.specs.declared.fault.PardoKind.TheVariants as text_kind
use Rattle.pardo_program.specs.declared.statement.Line.{Line}
use Rattle.pardo_program.specs.Program.{ArrayData, PrivateData, ProgramData}
use Rattle.pardo_text.specs.Reading.{program_of}
use Rattle.pardo_flat.specs.Flat.{flat}
use Rattle.pardo_flat.specs.Layouts.{cells_of_array, program_layout, row}
use Rattle.pardo_job.specs.declared.fault.JobKind.{JobKind}
use Rattle.pardo_job.specs.declared.fault.JobKind.TheVariants.{TooLong, Endless}
use Rattle.pardo_job.specs.declared.fault.JobKind.TheVariants as job_kind
use Rattle.pardo_job.specs.declared.fault.Refusal.TheVariants.{Text, Job}
use Rattle.pardo_job.specs.Compiled.{IsCompiled}
use Rattle.pardo_job.specs.Refusals.{IsProgramRefusal}
use Rattle.pardo_answers.specs.Language.{is_program}
use Rattle.page_core.specs.declared.codes.TheConstants.{DONE, NO_JOB, MEMORY, TEXT_TOO_LONG}
use Rattle.page_core.specs.declared.codes.TheConstants.{NO_ROOM, OTHER_LANGUAGE, TEXT_MOST}
use Rattle.page_core.specs.declared.codes.TheConstants.{SCALAR, ARRAY, PRIVATE, LOOP, MASK}
use Rattle.page_core.specs.declared.codes.TheConstants.{KEPT}
use Rattle.page_core.specs.declared.names.CellsRow.{CellsRow}
use Rattle.page_core.specs.declared.program.LineRow.{LineRow}
use Rattle.page_core.specs.declared.program.NoProgram.{NoProgram}
use Rattle.page_core.specs.declared.program.NoProgram.TheVariants.{OtherLanguage, TextTooLong}
use Rattle.page_core.specs.declared.program.NoProgram.TheVariants.{Refused, Memory}
use Rattle.page_core.specs.declared.program.ProgramTold.{ProgramTold}
use Rattle.page_core.specs.Texts.{coded}

-- ---- why nothing is told of a text

abbrev pub IsNoProgram : List ℕ → NoProgram → Type 0
IsNoProgram text OtherLanguage = is_program text ≡ false
IsNoProgram text TextTooLong = TEXT_MOST < length text
IsNoProgram text (Refused refusal) = IsProgramRefusal text refusal
IsNoProgram text Memory = Unit {0}

-- out of memory is no fault
abbrev pub text_kind_code : PardoKind → ℕ
text_kind_code text_kind.Memory = 0
text_kind_code NotAscii = 1
text_kind_code BadSymbol = 2
text_kind_code BadHeader = 3
text_kind_code BadLine = 4
text_kind_code UnknownName = 5
text_kind_code DuplicateName = 6
text_kind_code WrongKind = 7
text_kind_code OutOfLimits = 9
text_kind_code WrongLength = 10
text_kind_code TooManyCells = 11
text_kind_code BadBlock = 12
text_kind_code text_kind.TooDeep = 13
text_kind_code OpenBlock = 14
text_kind_code NoCode = 15

abbrev pub job_kind_code : JobKind → ℕ
job_kind_code job_kind.Memory = 0
job_kind_code job_kind.TooDeep = 16
job_kind_code TooLong = 17
job_kind_code Endless = 18
job_kind_code job_kind.TooManyCells = 19

abbrev pub why_told : ℕ → ℕ → ℕ → ProgramTold
why_told code fault line =
    record {
      status = record { code = code; fault = fault; line = line };
      bytes = 0;
      rows = 0;
    }

abbrev pub fault_told : ℕ → ℕ → ProgramTold
fault_told kind line =
    if kind == 0 then why_told MEMORY 0 0 else why_told NO_JOB kind line

abbrev pub no_program_told : NoProgram → ProgramTold
no_program_told OtherLanguage = why_told OTHER_LANGUAGE 0 0
no_program_told TextTooLong = why_told TEXT_TOO_LONG 0 0
no_program_told (Refused (Text fault)) = fault_told (text_kind_code fault.kind) fault.line
no_program_told (Refused (Job fault)) = fault_told (job_kind_code fault.kind) fault.line
no_program_told Memory = why_told MEMORY 0 0

-- ---- two buffers

-- how many bytes and how many rows were written
abbrev pub bytes_told : ProgramTold → ℕ
bytes_told told = if told.status.code == DONE then told.bytes else 0

abbrev pub rows_told : ProgramTold → ℕ
rows_told told = if told.status.code == DONE then told.rows else 0

abbrev pub sizes_told : ℕ → ℕ → ℕ → ProgramTold
sizes_told code bytes rows =
    record { status = coded code; bytes = bytes; rows = rows }

-- the bytes and the rows stand at the fronts of their buffers
abbrev pub AreWritten : {X : Type 0} → List ℕ → List X → List ℕ → List X → ProgramTold → Type 0
AreWritten bytes rows new_bytes new_rows told =
    (told ≡ sizes_told DONE (length bytes) (length rows))
    × (take (length bytes) new_bytes ≡ bytes) × (take (length rows) new_rows ≡ rows)

-- one of the buffers is too small
abbrev pub HaveNoRoomForProgram : {X : Type 0} → List ℕ → List X → List ℕ → List X → ProgramTold →
    Type 0
HaveNoRoomForProgram bytes rows old_bytes old_rows told =
    (told ≡ sizes_told NO_ROOM (length bytes) (length rows))
    × ((length old_bytes < length bytes) ⊎ (length old_rows < length rows))

abbrev pub ArePut : {X : Type 0} → List ℕ → List X → List ℕ → List X → List ℕ → List X →
    ProgramTold → Type 0
ArePut bytes rows old_bytes old_rows new_bytes new_rows told =
    AreWritten bytes rows new_bytes new_rows told
    ⊎ HaveNoRoomForProgram bytes rows old_bytes old_rows told

-- bytes and rows of which this holds are told, or why there are none
abbrev pub AreToldOf : {X : Type 0} → (NoProgram → Type 0) → (List ℕ → List X → Type 0) →
    List ℕ → List X → List ℕ → List X → ProgramTold → Type 0
AreToldOf {X} none holds old_bytes old_rows new_bytes new_rows told =
    ((bytes : List ℕ) × (rows : List X) × holds bytes rows
    × ArePut bytes rows old_bytes old_rows new_bytes new_rows told)
    ⊎ ((why : NoProgram) × none why × (told ≡ no_program_told why))

-- ---- the job of a program

-- the job that the compiler makes of the text's program, by a text that spells it, and the lines
-- that its instructions came from
pub record IsCompiledJobOf (text spelled numbers : List ℕ) : Type 0 where
  pub program : ProgramData
  pub job : JobData
  pub reads : program_of text ≡ Ok program
  pub compiled : IsCompiled program job (slice_index numbers)
  pub spells : Spells spelled job

-- ---- lines of code

abbrev pub line_row : Line → LineRow
line_row line = record { number = line.number; depth = line.depth }

abbrev pub AreLinesOf : List ℕ → List ℕ → List LineRow → Type 0
AreLinesOf text bytes rows = (program : ProgramData) × (program_of text ≡ Ok program)
    × (bytes ≡ []) × (rows ≡ map line_row program.lines)

-- ---- the names of cells

-- these cells, the length of their name, how many columns they have, and what they are for
abbrev pub cells_row : Array → ℕ → ℕ → ℕ → CellsRow
cells_row cells name width kind = record {
  base = cells.base;
  len = cells.len;
  name = name;
  width = width;
  kind = kind;
}

abbrev pub shared_row : ArrayData → CellsRow
shared_row array = cells_row (cells_of_array array) (length array.name)
    (unwrap_or array.width 0) (if array.is_scalar then SCALAR else ARRAY)

-- how many rows of a cell for each processor there are
abbrev pub own_count : ProgramData → ℕ
own_count program = length program.privates + program.loops + program.choices

-- the name of a row, if it is that of a private variable
abbrev pub own_name : List PrivateData → ℕ → Word
own_name privates which = elim (slice_get privates which) [
  | None ↦ []
  | Some variable ↦ variable.name
]

-- what a row of a flat program is for, where the text has so many variables of loops
abbrev pub own_kind : ProgramData → ℕ → ℕ → ℕ
own_kind program loops which = if nat_lt which (length program.privates)
    then (if length (own_name program.privates which) == 0 then KEPT else PRIVATE)
    else if nat_lt (which - length program.privates) loops then LOOP
    else if nat_lt which (length program.privates + program.loops) then KEPT else MASK

abbrev pub own_row : ProgramData → ℕ → ℕ → CellsRow
own_row program loops which =
    cells_row (row (program_layout program) which) (length (own_name program.privates which)) 0
    (own_kind program loops which)

-- the shared arrays, the private variables, the variables of loops, the masks
abbrev pub all_rows : ProgramData → ℕ → List CellsRow
all_rows program loops = map shared_row program.arrays
    ++ map (own_row program loops) (range_with_len 0 (own_count program))

-- the names, one after the other
abbrev pub all_names : ProgramData → List ℕ
all_names program = flat_map (λ array. array.name) program.arrays
    ++ flat_map (λ variable. variable.name) program.privates

-- those of the program that is compiled, which has a variable for each part of a long line
abbrev pub AreNamesOf : List ℕ → List ℕ → List CellsRow → Type 0
AreNamesOf text names rows = (program : ProgramData) × (program_of text ≡ Ok program)
    × (names ≡ all_names (flat program)) × (rows ≡ all_rows (flat program) program.loops)
