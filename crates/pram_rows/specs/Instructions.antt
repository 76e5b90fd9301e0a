-- Instructions as a text spells them, arrays by some words. A jump names a label there, whose index
-- the job keeps: here it names that index.
use Rattle.std.specs.Prelude.{ℕ, ◌+◌, ◌-◌, List, ◌++◌, codes, decimal}
use Rattle.pram_job.specs.declared.instr.Array.{Array}
use Rattle.pram_job.specs.declared.instr.Instr.{Instr}
use Rattle.pram_job.specs.declared.instr.Operand.{Operand}
use Rattle.pram_job.specs.declared.instr.Operand.TheVariants.{Register, Number}
use Rattle.pram_job.specs.declared.instr.Operands.{Operands}
use Rattle.pram_job.specs.declared.instr.Operands.TheVariants.{Bare, Target, TargetNumber}
use Rattle.pram_job.specs.declared.instr.Operands.TheVariants.{TargetPlace, TargetTwo, PlaceValue}
use Rattle.pram_job.specs.declared.instr.Operands.TheVariants.{RegisterIndex, Index}
use Rattle.pram_job.specs.declared.instr.Place.{Place}
use Rattle.pram_job.specs.declared.instr.Place.TheVariants.{Cell, Named}
use Rattle.pram_job.specs.Instructions.{row_of}

-- a register, or a number
abbrev pub operand_text : Operand → List ℕ
operand_text (Register register) = codes "r" ++ decimal register
operand_text (Number number) = decimal number

-- the first and the last cell of an array, as `8..11`
abbrev pub array_text : Array → List ℕ
array_text array =
    (decimal array.base ++ codes "..") ++ decimal (array.base + array.len - 1)

-- what stands before, and after a blank what follows it
abbrev pub then_word : List ℕ → List ℕ → List ℕ
then_word before after = (before ++ codes " ") ++ after

abbrev pub address_text : (Array → List ℕ) → Place → List ℕ
address_text words (Cell index) = operand_text index
address_text words (Named array index) = then_word (words array) (operand_text index)

-- a name, and a register or a number after it
abbrev pub one_register_text : List ℕ → ℕ → List ℕ
one_register_text name register = then_word name (operand_text (Register register))

abbrev pub register_number_text : List ℕ → ℕ → ℕ → List ℕ
register_number_text name register number =
    then_word (one_register_text name register) (decimal number)

-- a name, and the operands after it
abbrev pub spelled : (Array → List ℕ) → List ℕ → Operands → List ℕ
spelled words name Bare = name
spelled words name (Target target) = one_register_text name target
spelled words name (TargetNumber target number) = register_number_text name target number
spelled words name (TargetPlace target place) =
    then_word (one_register_text name target) (address_text words place)
spelled words name (TargetTwo target first second) =
    then_word (then_word (one_register_text name target) (operand_text (Register first)))
    (operand_text second)
spelled words name (PlaceValue place value) =
    then_word (then_word name (address_text words place)) (operand_text value)
spelled words name (RegisterIndex register index) = register_number_text name register index
spelled words name (Index index) = then_word name (decimal index)

abbrev pub instruction_text : (Array → List ℕ) → Instr → List ℕ
instruction_text words instr = spelled words (row_of instr).0 (row_of instr).1
