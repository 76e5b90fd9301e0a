-- A job printed as a text of version 3: its lines, each as its words.
use Rattle.std.specs.Prelude.{◌≡◌, ℕ, ◌+◌, Bool, true, false, not, ◌&&◌, ◌==◌, if◌then◌else◌}
use Rattle.std.specs.Prelude.{List, [], ◌∷◌, ◌++◌, length, map, filter, codes, decimal}
use Rattle.std.specs.List.{flat_map, list_any, slice_split, join_with_byte}
use Rattle.pram_job.specs.declared.instr.Array.{Array}
use Rattle.pram_job.specs.declared.instr.Instr.{Instr}
use Rattle.pram_job.specs.declared.instr.Operand.{Operand}
use Rattle.pram_job.specs.declared.instr.Operand.TheVariants.{Register, Number}
use Rattle.pram_job.specs.declared.instr.Operands.{Operands}
use Rattle.pram_job.specs.declared.instr.Operands.TheVariants.{Bare, Target, TargetNumber}
use Rattle.pram_job.specs.declared.instr.Operands.TheVariants.{TargetPlace, TargetTwo, PlaceValue}
use Rattle.pram_job.specs.declared.instr.Operands.TheVariants.{RegisterIndex, Index}
use Rattle.pram_job.specs.declared.instr.Place.{Place}
use Rattle.pram_job.specs.declared.instr.Place.TheVariants.{Cell, Named}
use Rattle.pram_job.specs.declared.instr.Rule.{Rule}
use Rattle.pram_job.specs.declared.instr.Rule.TheVariants.{Common, Priority, Crew}
use Rattle.pram_job.specs.Instructions.{IsArray, row_of}
use Rattle.pram_job.specs.Job.{JobData}
use Rattle.text_lines.specs.Lines.{Word, Line, is_filled}
use Rattle.pram_text.specs.Judgement.{is_array_name}
use Rattle.pram_text.specs.Text.{code_heading}

-- ---- the header

abbrev pub rule_word : Rule → Word
rule_word Common = codes "common"
rule_word Priority = codes "priority"
rule_word Crew = codes "crew"

-- a name, and a number
abbrev pub number_line : Word → ℕ → Line
number_line name number = name ∷ decimal number ∷ []

abbrev pub header_lines : JobData → List Line
header_lines job =
    (codes "pram" ∷ codes "3" ∷ [])
    ∷ number_line (codes "cells") job.cells
    ∷ number_line (codes "procs") job.procs
    ∷ number_line (codes "steps") job.steps
    ∷ (codes "rule" ∷ rule_word job.rule ∷ [])
    ∷ []

-- ---- arrays

-- how an array is named
abbrev pub ArrayWords : Type 0
ArrayWords = Array → Word

-- The array of the cells 8 to 11 has the name `.a8_4`: its first cell, and how many it has.
abbrev pub array_word : ArrayWords
array_word array = codes ".a" ++ decimal array.base ++ codes "_" ++ decimal array.len

-- Words by which a job of so many cells is read back: names, and another one for another array.
pub record AreArrayWords (cells : ℕ) (words : ArrayWords) : Type 0 where
  pub names : (array : Array) → IsArray cells array → is_array_name (words array) ≡ true
  pub differ : (array other : Array) → IsArray cells array → IsArray cells other →
      words array ≡ words other → array ≡ other

abbrev pub array_line : ArrayWords → Array → Line
array_line words array =
    codes "array" ∷ words array ∷ decimal array.base ∷ decimal array.len ∷ []

abbrev pub is_same : Array → Array → Bool
is_same array other = (array.base == other.base) && (array.len == other.len)

-- each array where it first stands
abbrev pub once : List Array → List Array
once [] = []
once (array ∷ arrays) = array ∷ filter (λ other. not (is_same array other)) (once arrays)

abbrev pub place_arrays : Place → List Array
place_arrays (Cell index) = []
place_arrays (Named array index) = array ∷ []

abbrev pub operand_arrays : Operands → List Array
operand_arrays (TargetPlace target place) = place_arrays place
operand_arrays (PlaceValue place value) = place_arrays place
operand_arrays _ = []

-- the arrays that instructions name
abbrev pub arrays_in : List Instr → List Array
arrays_in code = flat_map (λ instr. operand_arrays (row_of instr).1) code

-- ---- start values

-- A run of cells, of which none holds 0, has a line: its first cell, and its values.
abbrev pub run_line : ℕ → List ℕ → Line
run_line cell values = codes "init" ∷ decimal cell ∷ map (λ value. decimal value) values

abbrev pub line_if_any : ℕ → List ℕ → List Line
line_if_any cell values = if is_filled values then run_line cell values ∷ [] else []

-- the lines of runs, the first of which begins at this cell, with one cell between each two
abbrev pub run_lines : ℕ → List (List ℕ) → List Line
run_lines cell [] = []
run_lines cell (run ∷ runs) = line_if_any cell run ++ run_lines (cell + length run + 1) runs

-- Between the runs stand the cells that hold 0.
abbrev pub init_lines : List ℕ → List Line
init_lines init = run_lines 0 (slice_split (λ value. value == 0) init)

-- ---- instructions

abbrev pub register_word : ℕ → Word
register_word register = codes "r" ++ decimal register

abbrev pub operand_word : Operand → Word
operand_word (Register register) = register_word register
operand_word (Number number) = decimal number

abbrev pub place_words : ArrayWords → Place → Line
place_words words (Cell index) = operand_word index ∷ []
place_words words (Named array index) = words array ∷ operand_word index ∷ []

-- The label of the instruction of index 7, counted from 0, is `L7`.
abbrev pub label : ℕ → Word
label index = codes "L" ++ decimal index

abbrev pub operand_words : ArrayWords → Operands → Line
operand_words words Bare = []
operand_words words (Target target) = register_word target ∷ []
operand_words words (TargetNumber target number) = register_word target ∷ decimal number ∷ []
operand_words words (TargetPlace target place) = register_word target ∷ place_words words place
operand_words words (TargetTwo target first second) =
    register_word target ∷ register_word first ∷ operand_word second ∷ []
operand_words words (PlaceValue place value) = place_words words place ++ operand_word value ∷ []
operand_words words (RegisterIndex register index) = register_word register ∷ label index ∷ []
operand_words words (Index index) = label index ∷ []

-- whether an instruction with these operands jumps to this index
abbrev pub aims_at : ℕ → Operands → Bool
aims_at index (RegisterIndex register aim) = aim == index
aims_at index (Index aim) = aim == index
aims_at index _ = false

-- whether an instruction jumps there
abbrev pub is_aim : List Instr → ℕ → Bool
is_aim code index = list_any (λ instr. aims_at index (row_of instr).1) code

-- A label stands where an instruction jumps to.
abbrev pub label_words : Bool → ℕ → Line
label_words is_aim index = if is_aim then (label index ++ codes ":") ∷ [] else []

abbrev pub instruction_line : ArrayWords → Bool → ℕ → Instr → Line
instruction_line words is_aim index instr =
    label_words is_aim index ++ (row_of instr).0 ∷ operand_words words (row_of instr).1

-- the lines of instructions, the first of which has this index
abbrev pub printed_instructions : ArrayWords → (ℕ → Bool) → ℕ → List Instr → List Line
printed_instructions words is_aim index [] = []
printed_instructions words is_aim index (instr ∷ code) =
    instruction_line words (is_aim index) index instr
    ∷ printed_instructions words is_aim (index + 1) code

-- ---- the whole

abbrev pub body_lines : ArrayWords → List Instr → List Line
body_lines words code = printed_instructions words (is_aim code) 0 code

abbrev pub job_lines : ArrayWords → JobData → List Line
job_lines words job =
    header_lines job ++ (map (array_line words) (once (arrays_in job.code))
    ++ (init_lines job.init ++ code_heading ∷ body_lines words job.code))

-- the words of a line with a blank between each two, and a line feed
abbrev pub line_text : Line → List ℕ
line_text words = join_with_byte 32 words ++ codes "\n"

abbrev pub lines_text : List Line → List ℕ
lines_text lines = flat_map line_text lines

-- the text that is printed of a job, its arrays by these words
unfoldable pub text_of : ArrayWords → JobData → List ℕ
text_of words job = lines_text (job_lines words job)
