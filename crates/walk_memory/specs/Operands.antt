-- Operands of instructions.
use Rattle.std.specs.Coded.{le_prop}
use Rattle.pram_job.specs.declared.instr.Operand.{Operand}
use Rattle.pram_job.specs.declared.instr.Operand.TheVariants.{Register, Number}
use Rattle.pram_job.specs.Instructions.{IsOperand}

-- that one fits is a proposition
pub operand-prop : (operand : Operand) → IsProp (IsOperand operand)
operand-prop (Register register) = le_prop
operand-prop (Number number) = le_prop
