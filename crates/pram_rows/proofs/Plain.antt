-- The fields of a row as csv writes them: by numbers without quotes.
use Rattle.std.proofs.Common.{◌≡◌, ◌∙◌, ◌==◌, ◌++◌, ◌+◌, ◌-◌, ◌<◌, ◌^◌, ◌∷◌, [], ℕ, List}
use Rattle.std.proofs.Common.{Option, Some, None, Bool, true, false, cond, refl}
use Rattle.std.proofs.Common.{subst, append_assoc, arith, length, inl, inr}
use Rattle.std.proofs.lemmas.List.Folds.{list_any-append}
use Rattle.std.proofs.lemmas.Option.{slice_get_within, get_or_from_slice_get}
use Rattle.std.specs.Prelude.{codes, decimal, slice_get, nat_lt, IfSome}
use Rattle.std.specs.Option.{is_some}
use Rattle.csv.specs.Writing.{default_writer, field_text, fields_text}
use Rattle.csv.specs.Writing.{is_blank, needs_byte, row_text}
use Rattle.pram_job.specs.Job.{JobData, IsInstr, IsJob}
use Rattle.pram_job.specs.declared.instr.Instr.{Instr}
use Rattle.pram_job.specs.declared.instr.Operands.{Operands}
use Rattle.pram_job.specs.declared.instr.Operands.TheVariants.{Bare, Target, TargetNumber}
use Rattle.pram_job.specs.declared.instr.Operands.TheVariants.{TargetPlace, TargetTwo, PlaceValue}
use Rattle.pram_job.specs.declared.instr.Operands.TheVariants.{RegisterIndex, Index}
use Rattle.pram_job.specs.declared.instr.Operand.{Operand}
use Rattle.pram_job.specs.declared.instr.Operand.TheVariants.{Register, Number}
use Rattle.pram_job.specs.declared.instr.Place.{Place}
use Rattle.pram_job.specs.declared.instr.Place.TheVariants.{Cell, Named}
use Rattle.pram_job.specs.Instructions.{IsOperand, IsPlace, AreOperands, row_of}
use Rattle.pram_machine.specs.Instructions.{request_in}
use Rattle.pram_machine.specs.Machine.{IsDataPlace, State, counter, halted, register_place}
use Rattle.pram_streams.proofs.Plain.{IsPlain, IsUnquoted, decimal-unquoted, plain}
use Rattle.pram_rows.specs.Inner.Printing.{told_fields}
use Rattle.pram_rows.specs.Instructions.{operand_text, array_text, address_text, then_word}
use Rattle.pram_rows.specs.Instructions.{instruction_text, one_register_text, register_number_text}
use Rattle.pram_rows.specs.Instructions.{spelled}
use Rattle.pram_rows.specs.Rows.{RowWords, by_numbers, instruction_at, instruction_or_stop}
use Rattle.pram_rows.specs.Rows.{line_number_text, row_end, row_line, target_text, value_text}

append-unquoted : (a b : List ℕ) → IsUnquoted a → IsUnquoted b → IsUnquoted (a ++ b)
append-unquoted a b first second =
    list_any-append (needs_byte default_writer) a b ∙ (rw (first, second) refl)

-- a text, what stands between, and a number
number-unquoted : (text between : List ℕ) (n : ℕ) → IsUnquoted text → IsUnquoted between →
    n < 2 ^ 64 → IsUnquoted ((text ++ between) ++ decimal n)
number-unquoted text between n first second fits = append-unquoted (text ++ between) (decimal n)
    (append-unquoted text between first second) (decimal-unquoted n fits)

-- a text, a blank, and another text
and_then-unquoted : (before after : List ℕ) → IsUnquoted before → IsUnquoted after →
    IsUnquoted (then_word before after)
and_then-unquoted before after first second = append-unquoted (before ++ codes " ") after
    (append-unquoted before (codes " ") first refl) second

register-unquoted : (r : ℕ) → r < 4 → IsUnquoted (operand_text (Register r))
register-unquoted r low =
    append-unquoted (codes "r") (decimal r) refl (decimal-unquoted r (omega arith))

operand-unquoted : (operand : Operand) → IsOperand operand → IsUnquoted (operand_text operand)
operand-unquoted (Register r) is = register-unquoted r is
operand-unquoted (Number n) is = decimal-unquoted n (omega arith)

place-unquoted : (cells : ℕ) (place : Place) → cells < 2 ^ 32 → IsPlace cells place →
    IsUnquoted (address_text array_text place)
place-unquoted cells (Cell index) short is = operand-unquoted index is
place-unquoted cells (Named array index) short (fits, is) =
    and_then-unquoted (array_text array) (operand_text index)
    (number-unquoted (decimal array.base) (codes "..") (array.base + array.len - 1)
    (decimal-unquoted array.base (omega (arith, fits.1))) refl (omega (arith, fits.1)))
    (operand-unquoted index is)

one-unquoted : (name : List ℕ) (r : ℕ) → IsUnquoted name → r < 4 →
    IsUnquoted (one_register_text name r)
one-unquoted name r named low =
    and_then-unquoted name (operand_text (Register r)) named (register-unquoted r low)

register_number-unquoted : (name : List ℕ) (r k : ℕ) → IsUnquoted name → r < 4 → k < 2 ^ 64 →
    IsUnquoted (register_number_text name r k)
register_number-unquoted name r k named low fits = and_then-unquoted (one_register_text name r)
    (decimal k) (one-unquoted name r named low) (decimal-unquoted k fits)

name-unquoted : (instr : Instr) → IsUnquoted (row_of instr).0
name-unquoted instr = grind arith

spelled-unquoted : (cells len : ℕ) (name : List ℕ) (operands : Operands) → cells < 2 ^ 32 →
    len < 2 ^ 32 → IsUnquoted name → AreOperands cells len operands →
    IsUnquoted (spelled array_text name operands)
spelled-unquoted cells len name Bare few short named are = named
spelled-unquoted cells len name (Target r) few short named are = one-unquoted name r named are
spelled-unquoted cells len name (TargetNumber r k) few short named (register, fits) =
    register_number-unquoted name r k named register (omega arith)
spelled-unquoted cells len name (TargetPlace r place) few short named (register, is) =
    and_then-unquoted (one_register_text name r) (address_text array_text place)
    (one-unquoted name r named register)
    (place-unquoted cells place few is)
spelled-unquoted cells len name (TargetTwo r a b) few short named (target, first, second) =
    and_then-unquoted (then_word (one_register_text name r) (operand_text (Register a)))
    (operand_text b) (and_then-unquoted (one_register_text name r) (operand_text (Register a))
    (one-unquoted name r named target) (register-unquoted a first)) (operand-unquoted b second)
spelled-unquoted cells len name (PlaceValue place b) few short named (is, value) =
    and_then-unquoted (then_word name (address_text array_text place)) (operand_text b)
    (and_then-unquoted name (address_text array_text place) named (place-unquoted cells place few is))
    (operand-unquoted b value)
spelled-unquoted cells len name (RegisterIndex r index) few short named (register, within) =
    register_number-unquoted name r index named register (omega arith)
spelled-unquoted cells len name (Index index) few short named are =
    and_then-unquoted name (decimal index) named (decimal-unquoted index (omega arith))

instruction-unquoted : (cells len : ℕ) (instr : Instr) → cells < 2 ^ 32 → len < 2 ^ 32 →
    IsInstr cells len instr → IsUnquoted (instruction_text array_text instr)
instruction-unquoted cells len instr few short is = spelled-unquoted cells len (row_of instr).0
    (row_of instr).1 few short (name-unquoted instr) is

either-unquoted : (b : Bool) (first second : List ℕ) → IsUnquoted first → IsUnquoted second →
    IsUnquoted (cond b first second)
either-unquoted true first second one other = one
either-unquoted false first second one other = other

stop-or-instruction : (lines : Option (List ℕ)) (job : JobData) (counter : ℕ) (o : Option Instr) →
    IsJob job → slice_get job.code counter ≡ o →
    IsUnquoted (instruction_or_stop (by_numbers lines) job counter o)
stop-or-instruction lines job counter None is at =
    either-unquoted (counter == halted job) (codes "halted") (codes "out_of_range") refl refl
stop-or-instruction lines job counter (Some instr) is at =
    let here = is.code_fits counter instr (slice_get_within job.code counter instr at) in
    let instr_is = subst (λ (x : Instr). IsInstr job.cells (length job.code) x)
    (get_or_from_slice_get job.code counter instr instr at) here in
    instruction-unquoted job.cells (length job.code) instr
    (let few = is.cells.1 in omega (arith, few))
    (let few = is.code_len.1 in omega (arith, few)) instr_is

pub instruction-plain : (lines : Option (List ℕ)) (job : JobData) (counter : ℕ) → IsJob job →
    IsPlain (instruction_at (by_numbers lines) job counter)
instruction-plain lines job counter is = plain (instruction_at (by_numbers lines) job counter)
    (stop-or-instruction lines job counter (slice_get job.code counter) is refl)

place-fits : (job : JobData) (i place : ℕ) → IsJob job → i < job.procs →
    IsDataPlace job i place → place < 2 ^ 64
place-fits job i place is low (inl cell) = let cells = is.cells.1 in omega (arith, cells, cell)
place-fits job i place is low (inr own) =
    let cells = is.cells.1 in
    let procs = is.procs.1 in
    let below = own.1 in
    omega (arith, cells, procs, below)

pub target-plain : (lines : Option (List ℕ)) (job : JobData) (i : ℕ) (put : Option (ℕ × ℕ)) →
    IsJob job → i < job.procs → IfSome put (λ w. IsDataPlace job i w.0) →
    IsPlain (target_text (by_numbers lines) job i put)
target-plain lines job i None is low own = refl
target-plain lines job i (Some (place, value)) is low own =
    let fits : place < 2 ^ 64 = place-fits job i place is low own in
    plain (target_text (by_numbers lines) job i (Some (place, value)))
    (either-unquoted (nat_lt place job.cells)
    (codes "cell " ++ decimal place) (codes "r" ++ decimal (place - register_place job i 0))
    (append-unquoted (codes "cell ") (decimal place) refl (decimal-unquoted place fits))
    (append-unquoted (codes "r") (decimal (place - register_place job i 0)) refl
    (decimal-unquoted (place - register_place job i 0) (omega arith))))

-- a row of such fields as csv writes it
seven-text : (step processor index instruction target value next : List ℕ) →
    IsPlain step → IsPlain processor → IsPlain index → IsPlain value → IsPlain next →
    row_text default_writer (step ∷ processor ∷ index ∷ instruction ∷ target ∷ value ∷ next ∷ [])
    ≡ step ++ codes "," ++ processor ++ codes "," ++ index ++ codes ","
    ++ field_text default_writer instruction ++ codes ","
    ++ field_text default_writer target ++ codes "," ++ value ++ codes "," ++ next ++ codes "\n"
unfolding fields_text is_blank
seven-text step processor index instruction target value next steps processors indices values
    nexts = rw (steps, processors, indices, values, nexts) (simp append_assoc)

-- the same of a row with a line
eight-text : (step processor index instruction target value next line : List ℕ) →
    IsPlain step → IsPlain processor → IsPlain index → IsPlain value → IsPlain next →
    IsPlain line → row_text default_writer
    (step ∷ processor ∷ index ∷ instruction ∷ target ∷ value ∷ next ∷ line ∷ [])
    ≡ step ++ codes "," ++ processor ++ codes "," ++ index ++ codes ","
    ++ field_text default_writer instruction ++ codes ","
    ++ field_text default_writer target ++ codes "," ++ value ++ codes "," ++ next
    ++ (codes "," ++ line ++ codes "\n")
unfolding fields_text is_blank
eight-text step processor index instruction target value next line steps processors indices values
    nexts numbers = rw (steps, processors, indices, values, nexts, numbers) (simp append_assoc)

-- the fields of a row of the machine; numbers stand as they are
pub record AreFields (words : RowWords) (job : JobData) (s : State) (n i : ℕ)
    (step processor index instruction target value next line : List ℕ) : Type 0 where
  pub step_is : step ≡ decimal n
  pub processor_is : processor ≡ decimal i
  pub index_is : index ≡ decimal (counter job s i)
  pub instruction_is : instruction ≡ instruction_at words job (counter job s i)
  pub target_is : target ≡ target_text words job i (request_in job s i).put
  pub value_is : value ≡ value_text (request_in job s i).put
  pub next_is : next ≡ decimal (request_in job s i).next
  pub line_is : IfSome words.lines
      (λ numbers. line ≡ line_number_text numbers job (counter job s i))
  pub steps : IsPlain step
  pub processors : IsPlain processor
  pub indices : IsPlain index
  pub values : IsPlain value
  pub nexts : IsPlain next
  pub numbers : IsPlain line

module _ (words : RowWords) (job : JobData) (s : State) (n i : ℕ)
    (step processor index instruction target value next line : List ℕ)
    (fields : AreFields words job s n i step processor index instruction target value next line)
  where
    row-of : (lines : Option (List ℕ)) (told : Bool) → told ≡ is_some lines →
        IfSome lines (λ numbers. line ≡ line_number_text numbers job (counter job s i)) →
        row_text default_writer (told_fields told
        (step ∷ processor ∷ index ∷ instruction ∷ target ∷ value ∷ next ∷ line ∷ []))
        ≡ decimal n ++ codes "," ++ decimal i ++ codes "," ++ decimal (counter job s i) ++ codes ","
        ++ field_text default_writer (instruction_at words job (counter job s i)) ++ codes ","
        ++ field_text default_writer (target_text words job i (request_in job s i).put)
        ++ codes "," ++ value_text (request_in job s i).put ++ codes ","
        ++ decimal (request_in job s i).next ++ row_end lines job (counter job s i)
    row-of None true never line_is = absurd (cc never)
    row-of None false is_told line_is =
        seven-text step processor index instruction target value next
        fields.steps fields.processors fields.indices fields.values fields.nexts
        ∙ rw (
          fields.step_is,
          fields.processor_is,
          fields.index_is,
          fields.instruction_is,
          fields.target_is,
          fields.value_is,
          fields.next_is,
        ) refl
    row-of (Some numbers) false never line_is = absurd (cc never)
    row-of (Some numbers) true is_told line_is =
        eight-text step processor index instruction target value next line
        fields.steps fields.processors fields.indices fields.values fields.nexts fields.numbers
        ∙ rw (
          fields.step_is,
          fields.processor_is,
          fields.index_is,
          fields.instruction_is,
          fields.target_is,
          fields.value_is,
          fields.next_is,
          line_is,
        ) refl

    pub row-is : (told : Bool) → told ≡ is_some words.lines →
        row_text default_writer (told_fields told
        (step ∷ processor ∷ index ∷ instruction ∷ target ∷ value ∷ next ∷ line ∷ []))
        ≡ row_line words job s n i
    unfolding row_line
    row-is told is_told = row-of words.lines told is_told fields.line_is
