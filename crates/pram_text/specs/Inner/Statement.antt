-- An instruction line whose jump still names its label.
use Rattle.std.specs.Prelude.{◌≡◌, ℕ, Bool, List, Option, Some, None, Result, Ok}
use Rattle.std.specs.Borrow.{Bor}
use Rattle.std.specs.BTreeMap.{BTreeMap, get_by}
use Rattle.std.specs.Cmp.Lexicographic.{slice_cmp}
use Rattle.std.specs.Ordering.{nat_cmp}
use Rattle.pram_text.specs.declared.fault.TextKind.{TextKind}
use Rattle.pram_job.specs.declared.instr.Array.{Array}
use Rattle.pram_job.specs.declared.instr.Instr.{Instr}
use Rattle.pram_job.specs.declared.instr.Instr.TheVariants.{Jz, Jmp}
use Rattle.pram_job.specs.declared.instr.Operand.{Operand}
use Rattle.pram_job.specs.declared.instr.Place.{Place}
use Rattle.pram_text.specs.declared.statement.Names.{Names}
use Rattle.pram_text.specs.declared.statement.Statement.{Statement}
use Rattle.pram_job.specs.Instructions.{Form}
use Rattle.text_lines.specs.Lines.{Word, Line}
use Rattle.pram_text.specs.Judgement.{Scope, no_operand, one_register, two_operands}
use Rattle.pram_text.specs.Judgement.{register_and_place, place_operand, register_number}
use Rattle.pram_text.specs.Judgement.{register_label, one_label, index_in, instr_by, instr_of}
use Rattle.text_lines.specs.Reads.{◌>>=◌}

-- ---- operands

-- What was read of the operands is what the definitions say of them, whatever instruction they
-- make.
abbrev pub ReadsNone : Line → Result (Unit {0}) TextKind → Type 0
ReadsNone operands result = (instr : Instr) → no_operand instr operands ≡ (result >>= λ _. Ok instr)

abbrev pub ReadsOne : Line → Result ℕ TextKind → Type 0
ReadsOne operands result = (make : ℕ → Instr) →
    one_register make operands ≡ (result >>= λ register. Ok (make register))

abbrev pub ReadsTwo : Bool → Line → Result (ℕ × ℕ × Operand) TextKind → Type 0
ReadsTwo later operands result = (make : ℕ → ℕ → Operand → Instr) →
    two_operands later make operands ≡ (result >>= λ read. Ok (make read.0 read.1 read.2))

abbrev pub ReadsLoad : Scope → Line → Result (ℕ × Place) TextKind → Type 0
ReadsLoad scope operands result = (make : ℕ → Place → Instr) →
    register_and_place scope make operands ≡ (result >>= λ read. Ok (make read.0 read.1))

abbrev pub ReadsStore : Scope → Line → Result (Place × Operand) TextKind → Type 0
ReadsStore scope operands result = (make : Place → Operand → Instr) →
    place_operand scope make operands ≡ (result >>= λ read. Ok (make read.0 read.1))

abbrev pub ReadsNumber : Line → Result (ℕ × ℕ) TextKind → Type 0
ReadsNumber operands result = (make : ℕ → ℕ → Instr) →
    register_number make operands ≡ (result >>= λ read. Ok (make read.0 read.1))

abbrev pub ReadsJump : Line → Result (ℕ × Bor (List ℕ)) TextKind → Type 0
ReadsJump operands result =
    (find : Word → Option ℕ) (make : ℕ → ℕ → Instr)
    → register_label find make operands ≡ (result >>= λ read. index_in find read.1.now >>=
    λ index. Ok (make read.0 index))

abbrev pub ReadsLabel : Line → Result (Bor (List ℕ)) TextKind → Type 0
ReadsLabel operands result =
    (find : Word → Option ℕ) (make : ℕ → Instr)
    → one_label find make operands ≡ (result >>= λ label. index_in find label.now >>= λ index.
    Ok (make index))

-- ---- statements

-- a jump to this index; other instructions stay
abbrev pub aimed : Instr → ℕ → Instr
aimed (Jz register old) index = Jz register index
aimed (Jmp old) index = Jmp index
aimed instr index = instr

-- the statement's instruction, where `find` finds the index of its label
abbrev pub resolved : (Word → Option ℕ) → Statement → Result Instr TextKind
resolved find statement =
    elim statement.target [
      | None ↦ Ok statement.instr
      | Some label ↦ index_in find label.now >>=
          λ index. Ok (aimed statement.instr index)
    ]

-- What was read of a line is what it says, wherever its label is.
abbrev pub ReadsLine : Scope → Line → Result Statement TextKind → Type 0
ReadsLine scope line result = (find : Word → Option ℕ) →
    instr_of scope find line ≡ (result >>= resolved find)

-- What was read of an instruction that has one of these rows is what it says, wherever its label
-- is.
abbrev pub ReadsRows : List (Word × Form) → Scope → Word → Line →
    Result Statement TextKind → Type 0
ReadsRows rows scope name operands result = (find : Word → Option ℕ) →
    instr_by rows scope find name operands ≡ (result >>= resolved find)

-- ---- what is known of a text

-- the array of a name, if there is one
abbrev pub array_of_name : BTreeMap (Bor (List ℕ)) Array → Word → Option Array
array_of_name arrays name = get_by (λ key. slice_cmp nat_cmp name key.now) arrays

-- what the words of instruction lines may be
abbrev pub known : Names → Scope
known names = record { later = names.later; arrays = array_of_name names.arrays.now }
