-- What a line says by itself, or its fault by the order of judgement.
use Rattle.std.specs.Prelude.{ℕ, ◌-◌, Bool, false, not, ◌&&◌, ◌||◌, ◌==◌}
use Rattle.std.specs.Prelude.{nat_le, if◌then◌else◌, List, [], ◌∷◌, take, length, slice_index}
use Rattle.std.specs.Prelude.{codes}
use Rattle.std.specs.Prelude.{Option, Some, None, Result, Ok, Err}
use Rattle.std.specs.Char.{is_ascii_digit, is_ascii_alphabetic, is_ascii_alphanumeric}
use Rattle.std.specs.List.{list_all}
use Rattle.std.specs.Option.{ok_or}
use Rattle.std.specs.Result.{is_err}
use Rattle.std.specs.Str.{bytes_eq}
use Rattle.std.specs.Str.Parse.{digits_value}
use Rattle.pram_text.specs.declared.fault.TextKind.{TextKind}
use Rattle.pram_text.specs.declared.fault.TextKind.TheVariants.{BadHeader, BadNumber}
use Rattle.pram_text.specs.declared.fault.TextKind.TheVariants.{OutOfLimits, UnknownInstruction}
use Rattle.pram_text.specs.declared.fault.TextKind.TheVariants.{WrongOperands, BadRegister}
use Rattle.pram_text.specs.declared.fault.TextKind.TheVariants.{UnknownLabel}
use Rattle.pram_job.specs.declared.instr.Array.{Array}
use Rattle.pram_job.specs.declared.instr.Instr.{Instr}
use Rattle.pram_job.specs.declared.instr.Operand.{Operand}
use Rattle.pram_job.specs.declared.instr.Operand.TheVariants.{Register, Number}
use Rattle.pram_job.specs.declared.instr.Place.{Place}
use Rattle.pram_job.specs.declared.instr.Place.TheVariants.{Cell, Named}
use Rattle.pram_job.specs.declared.instr.Rule.{Rule}
use Rattle.pram_job.specs.declared.instr.Rule.TheVariants.{Common, Priority, Crew}
use Rattle.pram_job.specs.declared.limits.TheConstants.{MAX_CELLS, MAX_PROCS}
use Rattle.pram_job.specs.Instructions.{Form, table, bare, only_target, target_number}
use Rattle.pram_job.specs.Instructions.{target_place, target_two, place_value, register_index}
use Rattle.pram_job.specs.Instructions.{only_index}
use Rattle.text_lines.specs.Lines.{Word, Line, is_filled}
use Rattle.text_lines.specs.Reads.{◌>>=◌}

-- ---- numbers, registers and names

-- one digit or more, and nothing else
abbrev pub is_number : Word → Bool
is_number word = is_filled word && list_all is_ascii_digit word

abbrev pub value_of_digits : Word → ℕ
value_of_digits word = digits_value 10 word

unfoldable pub number_in : ℕ → ℕ → Word → Result ℕ TextKind
number_in low high word =
    if is_number word
    then (if nat_le low (value_of_digits word)
    && nat_le (value_of_digits word) high then Ok (value_of_digits word)
    else Err OutOfLimits)
    else Err BadNumber

-- the greatest number of 32 bits
abbrev pub most : ℕ
most = 4294967295

unfoldable pub register_of : Word → Result ℕ TextKind
register_of word =
    if bytes_eq word (codes "r0") then Ok 0
    else (if bytes_eq word (codes "r1") then Ok 1
    else (if bytes_eq word (codes "r2") then Ok 2
    else (if bytes_eq word (codes "r3") then Ok 3 else Err BadRegister)))

-- a letter or `_`, then letters, digits or `_`
unfoldable pub is_name : Word → Bool
is_name [] = false
is_name (first ∷ rest) =
    (is_ascii_alphabetic first || (first == 95))
    && list_all (λ byte. is_ascii_alphanumeric byte || (byte == 95)) rest

-- ---- header lines

-- `NAME number`
unfoldable pub named_number : Word → ℕ → ℕ → Line → Result ℕ TextKind
named_number name low high (first ∷ number ∷ []) =
    if bytes_eq first name then number_in low high number else Err BadHeader
named_number name low high _ = Err BadHeader

-- `pram 1`, `pram 2` or `pram 3`
unfoldable pub version_of : Line → Result ℕ TextKind
version_of (first ∷ number ∷ []) =
    if not (bytes_eq first (codes "pram")) then Err BadHeader
    else (if not (is_number number) then Err BadNumber
    else (if nat_le 1 (value_of_digits number) && nat_le (value_of_digits number) 3
    then Ok (value_of_digits number) else Err BadHeader))
version_of _ = Err BadHeader

-- whether a text of this version has what version 3 brought
abbrev pub is_later : ℕ → Bool
is_later version = nat_le 3 version

-- how many cells and processors it asks for at most
abbrev pub most_cells : ℕ → ℕ
most_cells version = if is_later version then MAX_CELLS else 65536

abbrev pub most_procs : ℕ → ℕ
most_procs version = if is_later version then MAX_PROCS else 1024

abbrev pub cells_of : ℕ → Line → Result ℕ TextKind
cells_of version line = named_number (codes "cells") 1 (most_cells version) line

abbrev pub procs_of : ℕ → Line → Result ℕ TextKind
procs_of version line = named_number (codes "procs") 1 (most_procs version) line

abbrev pub steps_of : Line → Result ℕ TextKind
steps_of line = named_number (codes "steps") 0 most line

-- `rule common`, `rule priority` or `rule crew`
unfoldable pub rule_of : Line → Result Rule TextKind
rule_of (first ∷ name ∷ []) =
    if not (bytes_eq first (codes "rule")) then Err BadHeader
    else (if bytes_eq name (codes "common") then Ok Common
    else (if bytes_eq name (codes "priority") then Ok Priority
    else (if bytes_eq name (codes "crew") then Ok Crew else Err BadHeader)))
rule_of _ = Err BadHeader

-- ---- between the header and the line `code`

-- what a line says there: an array has this name, or the cells from this one on start with these
-- values
pub data Entry : Type 0 where
  names : Word → Array → Entry
  gives : ℕ → List ℕ → Entry

-- A `.` and a name, or a name that is no register.
unfoldable pub is_array_name : Word → Bool
is_array_name [] = false
is_array_name (first ∷ rest) =
    if first == 46 then is_name rest
    else is_name (first ∷ rest) && is_err (register_of (first ∷ rest))

unfoldable pub says_array : Line → Bool
says_array [] = false
says_array (first ∷ words) = bytes_eq first (codes "array")

-- `array NAME b n`, where there are so many cells
unfoldable pub array_of : ℕ → Line → Result Entry TextKind
array_of cells (first ∷ name ∷ base_word ∷ len_word ∷ []) =
    if is_array_name name
    then (number_in 0 (cells - 1) base_word >>= λ base.
    number_in 1 (cells - base) len_word >>= λ len.
    Ok (names name (record { base = base; len = len }))) else Err BadHeader
array_of cells _ = Err BadHeader

-- the numbers of these words, for which there are so many cells
abbrev pub values_of : ℕ → Line → Result (List ℕ) TextKind
values_of room [] = Ok []
values_of room (word ∷ words) =
    number_in 0 most word >>= λ value.
    if room == 0 then Err OutOfLimits
    else (values_of (room - 1) words >>= λ values. Ok (value ∷ values))

-- whether these words may be start values: at least one, and before version 3 just one
abbrev pub are_values : Bool → Line → Bool
are_values later [] = false
are_values later (word ∷ words) = later || not (is_filled words)

-- `init c v`, and in version 3 `init c v v ..`, where there are so many cells
unfoldable pub init_of : Bool → ℕ → Line → Result Entry TextKind
init_of later cells (first ∷ cell_word ∷ value_words) =
    if bytes_eq first (codes "init") && are_values later value_words
    then (number_in 0 (cells - 1) cell_word >>= λ cell.
    values_of (cells - cell) value_words >>= λ values. Ok (gives cell values))
    else Err BadHeader
init_of later cells _ = Err BadHeader

-- in version 3, and in the versions before it
unfoldable pub entry_of : Bool → ℕ → Line → Result Entry TextKind
entry_of later cells line =
    if later && says_array line then array_of cells line else init_of later cells line

unfoldable pub is_code : Line → Bool
is_code (first ∷ []) = bytes_eq first (codes "code")
is_code _ = false

-- ---- instruction lines

abbrev pub is_label : Word → Bool
is_label word = slice_index word (length word - 1) == 58

-- what stands before the `:` of a line's label
unfoldable pub label_of : Line → Option Word
label_of [] = None
label_of (word ∷ words) = if is_label word then Some (take (length word - 1) word) else None

-- the line after its label
unfoldable pub unlabelled : Line → Line
unlabelled [] = []
unlabelled (word ∷ words) = if is_label word then words else word ∷ words

-- What the words after an instruction's name may be. Version 3 has numbers among the operands,
-- and arrays.
pub record Scope : Type 0 where
  pub later : Bool
  pub arrays : Word → Option Array

-- a register, or a number in version 3
abbrev pub operand_of : Bool → Word → Result Operand TextKind
operand_of later word =
    if later && is_number word
    then (number_in 0 most word >>= λ number. Ok (Number number))
    else (register_of word >>= λ register. Ok (Register register))

abbrev pub array_at : Scope → Word → Result Array TextKind
array_at scope name = ok_or (scope.arrays name) BadRegister

abbrev pub no_operand : Instr → Line → Result Instr TextKind
no_operand instr [] = Ok instr
no_operand instr (word ∷ words) = Err WrongOperands

abbrev pub one_register : (ℕ → Instr) → Line → Result Instr TextKind
one_register make (word ∷ []) = register_of word >>= λ register. Ok (make register)
one_register make _ = Err WrongOperands

abbrev pub two_operands : Bool → (ℕ → ℕ → Operand → Instr) → Line → Result Instr TextKind
two_operands later make (target_word ∷ first_word ∷ second_word ∷ []) =
    register_of target_word >>= λ target. register_of first_word >>= λ first.
    operand_of later second_word >>= λ second. Ok (make target first second)
two_operands later make _ = Err WrongOperands

-- a register, and an index or an array and an index
abbrev pub register_and_place : Scope → (ℕ → Place → Instr) → Line → Result Instr TextKind
register_and_place scope make (target_word ∷ word ∷ []) =
    register_of target_word >>= λ target. operand_of scope.later word >>= λ index.
    Ok (make target (Cell index))
register_and_place scope make (target_word ∷ name ∷ word ∷ []) =
    if scope.later
    then (register_of target_word >>= λ target. array_at scope name >>= λ array.
    operand_of scope.later word >>= λ index. Ok (make target (Named array index)))
    else Err WrongOperands
register_and_place scope make _ = Err WrongOperands

-- an index or an array and an index, and a value
abbrev pub place_operand : Scope → (Place → Operand → Instr) → Line → Result Instr TextKind
place_operand scope make (word ∷ value_word ∷ []) =
    operand_of scope.later word >>= λ index. operand_of scope.later value_word >>= λ value.
    Ok (make (Cell index) value)
place_operand scope make (name ∷ word ∷ value_word ∷ []) =
    if scope.later
    then (array_at scope name >>= λ array. operand_of scope.later word >>= λ index.
    operand_of scope.later value_word >>= λ value. Ok (make (Named array index) value))
    else Err WrongOperands
place_operand scope make _ = Err WrongOperands

abbrev pub register_number : (ℕ → ℕ → Instr) → Line → Result Instr TextKind
register_number make (register_word ∷ number_word ∷ []) =
    register_of register_word >>= λ register. number_in 0 most number_word >>= λ number.
    Ok (make register number)
register_number make _ = Err WrongOperands

-- a label stands for its index, where `find` finds it
abbrev pub index_in : (Word → Option ℕ) → Word → Result ℕ TextKind
index_in find label = ok_or (find label) UnknownLabel

abbrev pub one_label : (Word → Option ℕ) → (ℕ → Instr) → Line → Result Instr TextKind
one_label find make (label ∷ []) = index_in find label >>= λ index. Ok (make index)
one_label find make _ = Err WrongOperands

abbrev pub register_label : (Word → Option ℕ) → (ℕ → ℕ → Instr) → Line → Result Instr TextKind
register_label find make (word ∷ label ∷ []) =
    register_of word >>= λ register. index_in find label >>= λ index. Ok (make register index)
register_label find make _ = Err WrongOperands

-- the operands after a name, and the instruction that they make
abbrev pub made_of : Scope → (Word → Option ℕ) → Form → Line → Result Instr TextKind
made_of scope find (bare instr) operands = no_operand instr operands
made_of scope find (only_target make) operands = one_register make operands
made_of scope find (target_number make) operands = register_number make operands
made_of scope find (target_place make) operands = register_and_place scope make operands
made_of scope find (target_two make) operands = two_operands scope.later make operands
made_of scope find (place_value make) operands = place_operand scope make operands
made_of scope find (register_index make) operands = register_label find make operands
made_of scope find (only_index make) operands = one_label find make operands

-- the first row of this name says what the operands are
abbrev pub instr_by : List (Word × Form) → Scope → (Word → Option ℕ) → Word → Line →
    Result Instr TextKind
instr_by [] scope find name operands = Err UnknownInstruction
instr_by (row ∷ rows) scope find name operands =
    if bytes_eq name row.0 then made_of scope find row.1 operands
    else instr_by rows scope find name operands

-- the instruction of a line after its label
unfoldable pub instr_of : Scope → (Word → Option ℕ) → Line → Result Instr TextKind
instr_of scope find [] = Err UnknownInstruction
instr_of scope find (name ∷ operands) = instr_by (table scope.later) scope find name operands
