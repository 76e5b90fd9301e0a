-- What straight code of expressions leaves in the registers of a processor.
use Rattle.std.specs.Prelude.{◌≡◌, ℕ, ◌^◌, ◌<◌, ◌==◌, true, not, List, Option, Some, None}
use Rattle.pram_job.specs.declared.instr.Instr.{Instr}
use Rattle.pardo_program.specs.Expression.{Tree}
use Rattle.pardo_program.specs.Operations.{bit}
use Rattle.pardo_program.specs.Program.{ProgramData}
use Rattle.pardo_flat.specs.Layouts.{ProgramLayoutData}
use Rattle.pardo_job.specs.Lawful.{IsLawfulTree}
use Rattle.pardo_job.specs.Lines.{condition_code}
use Rattle.pardo_job.specs.Meaning.{Source, value}
use Rattle.pardo_job.specs.Operations.{is_shallow}
use Rattle.pardo_job.specs.Sees.{Sees}
use Rattle.pardo_job.specs.Straight.{Registers, operand_value, after_all, IsKept}
use Rattle.pardo_job.specs.Values.{value_code, value_operand}

-- the value is where it is looked for, and the kept registers hold what they held
pub record LeavesValue (memory : ℕ → ℕ) (i : ℕ) (held : Registers) (layout : ProgramLayoutData)
    (at : ℕ)
    (tree : Tree) (v : ℕ) : Type 0 where
  pub now : Registers
  pub runs : after_all memory i (value_code layout at tree) held ≡ Some now
  pub gives : operand_value now (value_operand at tree) ≡ v
  pub keeps : (which : ℕ) → IsKept at which → now which ≡ held which
  pub fits : v < 2 ^ 32

abbrev pub LeavesTo : (ℕ → ℕ) → ℕ → Registers → ProgramLayoutData → ℕ → Tree → Option ℕ → Type 0
LeavesTo memory i held layout at tree None =
    after_all memory i (value_code layout at tree) held ≡ None
LeavesTo memory i held layout at tree (Some v) = LeavesValue memory i held layout at tree v

abbrev pub ExpressionsAreEvaluated : Type 0
ExpressionsAreEvaluated = (program : ProgramData) (layout : ProgramLayoutData) (source : Source)
    (memory : ℕ → ℕ) (i at : ℕ) (tree : Tree) (held : Registers) →
    Sees program layout source memory i → held 3 ≡ i → IsLawfulTree layout tree →
    is_shallow (value_code layout at tree) ≡ true →
    LeavesTo memory i held layout at tree (value program source i tree)

-- register 0 says whether the value of a condition is not 0
pub record Decides (memory : ℕ → ℕ) (i : ℕ) (held : Registers) (code : List Instr) (v : ℕ) :
    Type 0 where
  pub now : Registers
  pub runs : after_all memory i code held ≡ Some now
  pub gives : now 0 ≡ bit (not (v == 0))
  pub keeps : now 3 ≡ held 3

abbrev pub DecidesTo : (ℕ → ℕ) → ℕ → Registers → List Instr → Option ℕ → Type 0
DecidesTo memory i held code None = after_all memory i code held ≡ None
DecidesTo memory i held code (Some v) = Decides memory i held code v

abbrev pub ConditionsDecide : Type 0
ConditionsDecide = (program : ProgramData) (layout : ProgramLayoutData) (source : Source)
    (memory : ℕ → ℕ) (i : ℕ) (tree : Tree) (held : Registers) →
    Sees program layout source memory i → held 3 ≡ i → IsLawfulTree layout tree →
    is_shallow (condition_code layout tree) ≡ true →
    DecidesTo memory i held (condition_code layout tree) (value program source i tree)
