-- The table of instructions: what a text calls each of them, and what it has after the name.
use Rattle.std.specs.Prelude.{ℕ, ◌+◌, ◌<◌, ◌≤◌, ◌^◌, Bool, if◌then◌else◌, List, [], ◌∷◌, codes}
use Rattle.std.specs.Prelude.{Option, Some, None}
use Rattle.std.specs.Str.{bytes_eq}
use Rattle.pram_job.specs.declared.instr.Array.{Array}
use Rattle.pram_job.specs.declared.instr.Instr.{Instr}
use Rattle.pram_job.specs.declared.instr.Instr.TheVariants.{Set, Pid, Add, Sub, Mul, And, Or, Xor}
use Rattle.pram_job.specs.declared.instr.Instr.TheVariants.{Lt, Eq, Shl, Shr, Div, Rem, Ld}
use Rattle.pram_job.specs.declared.instr.Instr.TheVariants.{St, Jz, Jmp, Halt}
use Rattle.pram_job.specs.declared.instr.Operand.{Operand}
use Rattle.pram_job.specs.declared.instr.Operand.TheVariants.{Register, Number}
use Rattle.pram_job.specs.declared.instr.Operands.{Operands}
use Rattle.pram_job.specs.declared.instr.Operands.TheVariants.{Bare, Target, TargetNumber}
use Rattle.pram_job.specs.declared.instr.Operands.TheVariants.{TargetPlace, TargetTwo, PlaceValue}
use Rattle.pram_job.specs.declared.instr.Operands.TheVariants.{RegisterIndex, Index}
use Rattle.pram_job.specs.declared.instr.Place.{Place}
use Rattle.pram_job.specs.declared.instr.Place.TheVariants.{Cell, Named}
use Rattle.pram_job.specs.declared.limits.TheConstants.{REGISTERS}

-- ---- from an instruction to its text

abbrev pub row_of : Instr → List ℕ × Operands
row_of (Set target number) = (codes "set", TargetNumber target number)
row_of (Pid target) = (codes "pid", Target target)
row_of (Add target first second) = (codes "add", TargetTwo target first second)
row_of (Sub target first second) = (codes "sub", TargetTwo target first second)
row_of (Mul target first second) = (codes "mul", TargetTwo target first second)
row_of (And target first second) = (codes "and", TargetTwo target first second)
row_of (Or target first second) = (codes "or", TargetTwo target first second)
row_of (Xor target first second) = (codes "xor", TargetTwo target first second)
row_of (Lt target first second) = (codes "lt", TargetTwo target first second)
row_of (Eq target first second) = (codes "eq", TargetTwo target first second)
row_of (Shl target first second) = (codes "shl", TargetTwo target first second)
row_of (Shr target first second) = (codes "shr", TargetTwo target first second)
row_of (Div target first second) = (codes "div", TargetTwo target first second)
row_of (Rem target first second) = (codes "rem", TargetTwo target first second)
row_of (Ld target place) = (codes "ld", TargetPlace target place)
row_of (St place value) = (codes "st", PlaceValue place value)
row_of (Jz register index) = (codes "jz", RegisterIndex register index)
row_of (Jmp index) = (codes "jmp", Index index)
row_of Halt = (codes "halt", Bare)

-- ---- from a text to the instruction

-- what the operands after a name make
pub data Form : Type 0 where
  bare : Instr → Form
  only_target : (ℕ → Instr) → Form
  target_number : (ℕ → ℕ → Instr) → Form
  target_place : (ℕ → Place → Instr) → Form
  target_two : (ℕ → ℕ → Operand → Instr) → Form
  place_value : (Place → Operand → Instr) → Form
  register_index : (ℕ → ℕ → Instr) → Form
  only_index : (ℕ → Instr) → Form

-- the rows that version 3 brought
abbrev pub later_rows : List (List ℕ × Form)
later_rows =
    (codes "shl", target_two (λ target first second. Shl target first second))
    ∷ (codes "shr", target_two (λ target first second. Shr target first second))
    ∷ (codes "div", target_two (λ target first second. Div target first second))
    ∷ (codes "rem", target_two (λ target first second. Rem target first second))
    ∷ []

-- those of all versions, and where they are wanted those of version 3 alone
abbrev pub table : Bool → List (List ℕ × Form)
table later =
    (codes "set", target_number (λ target number. Set target number))
    ∷ (codes "pid", only_target (λ target. Pid target))
    ∷ (codes "add", target_two (λ target first second. Add target first second))
    ∷ (codes "sub", target_two (λ target first second. Sub target first second))
    ∷ (codes "mul", target_two (λ target first second. Mul target first second))
    ∷ (codes "and", target_two (λ target first second. And target first second))
    ∷ (codes "or", target_two (λ target first second. Or target first second))
    ∷ (codes "xor", target_two (λ target first second. Xor target first second))
    ∷ (codes "lt", target_two (λ target first second. Lt target first second))
    ∷ (codes "eq", target_two (λ target first second. Eq target first second))
    ∷ (codes "ld", target_place (λ target place. Ld target place))
    ∷ (codes "st", place_value (λ place value. St place value))
    ∷ (codes "jz", register_index (λ register index. Jz register index))
    ∷ (codes "jmp", only_index (λ index. Jmp index))
    ∷ (codes "halt", bare Halt)
    ∷ (if later then later_rows else [])

-- the first row of this name says what the operands are
abbrev pub form_named : List (List ℕ × Form) → List ℕ → Option Form
form_named [] name = None
form_named (row ∷ rows) name = if bytes_eq name row.0 then Some row.1 else form_named rows name

-- the instruction that operands make, where they are those of the form
abbrev pub made_with : Form → Operands → Option Instr
made_with (bare instr) Bare = Some instr
made_with (only_target make) (Target target) = Some (make target)
made_with (target_number make) (TargetNumber target number) = Some (make target number)
made_with (target_place make) (TargetPlace target place) = Some (make target place)
made_with (target_two make) (TargetTwo target first second) = Some (make target first second)
made_with (place_value make) (PlaceValue place value) = Some (make place value)
made_with (register_index make) (RegisterIndex register index) = Some (make register index)
made_with (only_index make) (Index index) = Some (make index)
made_with _ _ = None

-- ---- what operands there are

-- a register is one of those that there are, and a number is below 2^32
abbrev pub IsOperand : Operand → Type 0
IsOperand (Register register) = register < REGISTERS
IsOperand (Number number) = number < 2 ^ 32

-- an array has a place at least, and all of them among so many cells
abbrev pub IsArray : ℕ → Array → Type 0
IsArray cells array = (1 ≤ array.len) × (array.base + array.len ≤ cells)

abbrev pub IsPlace : ℕ → Place → Type 0
IsPlace cells (Cell index) = IsOperand index
IsPlace cells (Named array index) = IsArray cells array × IsOperand index

-- in a machine of so many cells; an index is that of an instruction in a code of this length, or
-- of its end
abbrev pub AreOperands : ℕ → ℕ → Operands → Type 0
AreOperands cells len Bare = Unit {0}
AreOperands cells len (Target target) = target < REGISTERS
AreOperands cells len (TargetNumber target number) = (target < REGISTERS) × (number < 2 ^ 32)
AreOperands cells len (TargetPlace target place) = (target < REGISTERS) × IsPlace cells place
AreOperands cells len (TargetTwo target first second) =
    (target < REGISTERS) × (first < REGISTERS) × IsOperand second
AreOperands cells len (PlaceValue place value) = IsPlace cells place × IsOperand value
AreOperands cells len (RegisterIndex register index) = (register < REGISTERS) × (index ≤ len)
AreOperands cells len (Index index) = index ≤ len
