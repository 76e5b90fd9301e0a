-- What straight code does with the registers of one processor, while memory stands still.
use Rattle.std.specs.Prelude.{◌≡◌, ℕ, ◌+◌, ◌<◌, ◌⊎◌, ◌==◌, nat_lt, if◌then◌else◌}
use Rattle.std.specs.Prelude.{List, [], ◌∷◌, Option, Some, None}
use Rattle.std.specs.Option.{option_and_then, option_map}
use Rattle.pram_job.specs.declared.instr.Instr.{Instr}
use Rattle.pram_job.specs.declared.instr.Operand.{Operand}
use Rattle.pram_job.specs.declared.instr.Operand.TheVariants.{Register, Number}
use Rattle.pram_job.specs.declared.instr.Operands.{Operands}
use Rattle.pram_job.specs.declared.instr.Operands.TheVariants.{Bare, Target, TargetNumber}
use Rattle.pram_job.specs.declared.instr.Operands.TheVariants.{TargetPlace, TargetTwo, PlaceValue}
use Rattle.pram_job.specs.declared.instr.Operands.TheVariants.{RegisterIndex, Index}
use Rattle.pram_job.specs.declared.instr.Place.TheVariants.{Cell, Named}
use Rattle.pram_job.specs.Instructions.{row_of}
use Rattle.pram_machine.specs.Instructions.{computed}

-- what each register holds
abbrev pub Registers : Type 0
Registers = ℕ → ℕ

-- a register takes a value
abbrev pub put : ℕ → ℕ → Registers → Registers
put target value held = λ which. if which == target then value else held which

abbrev pub operand_value : Registers → Operand → ℕ
operand_value held (Register register) = held register
operand_value held (Number number) = number

-- The registers of processor i after an instruction that has these operands, and computes this of
-- two numbers; none if it reads a place of an array that there is not, or divides by 0. Stores and
-- jumps change none.
abbrev pub registers_then : (ℕ → ℕ) → ℕ → (ℕ → ℕ → Option ℕ) → Operands → Registers →
    Option Registers
registers_then memory i computes Bare held = Some held
registers_then memory i computes (Target target) held = Some (put target i held)
registers_then memory i computes (TargetNumber target number) held = Some (put target number held)
registers_then memory i computes (TargetPlace target (Cell index)) held =
    Some (put target (memory (operand_value held index)) held)
registers_then memory i computes (TargetPlace target (Named array index)) held =
    if nat_lt (operand_value held index) array.len
    then Some (put target (memory (array.base + operand_value held index)) held) else None
registers_then memory i computes (TargetTwo target a b) held =
    option_map (λ value. put target value held) (computes (held a) (operand_value held b))
registers_then memory i computes (PlaceValue place value) held = Some held
registers_then memory i computes (RegisterIndex register index) held = Some held
registers_then memory i computes (Index index) held = Some held

abbrev pub after_one : (ℕ → ℕ) → ℕ → Instr → Registers → Option Registers
after_one memory i instr held =
    registers_then memory i (computed instr) (row_of instr).1 held

-- the registers after some instructions
abbrev pub after_all : (ℕ → ℕ) → ℕ → List Instr → Registers → Option Registers
after_all memory i [] held = Some held
after_all memory i (instr ∷ code) held =
    option_and_then (after_all memory i code) (after_one memory i instr held)

-- the registers below `at`, and that of the own number
abbrev pub IsKept : ℕ → ℕ → Type 0
IsKept at which = (which < at) ⊎ (which ≡ 3)

-- the code leaves a value in the register `at`, and what the kept registers held
pub record Computes (memory : ℕ → ℕ) (i : ℕ) (held : Registers) (at : ℕ) (code : List Instr)
    (value : ℕ) : Type 0 where
  pub now : Registers
  pub runs : after_all memory i code held ≡ Some now
  pub gives : now at ≡ value
  pub keeps : (which : ℕ) → IsKept at which → now which ≡ held which
