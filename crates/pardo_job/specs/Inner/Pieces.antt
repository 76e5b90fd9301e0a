-- Pieces of the code of lines.
use Rattle.std.specs.Prelude.{◌≡◌, ℕ, ◌+◌, ◌*◌, ◌<◌, ◌==◌, if◌then◌else◌, true, false, List, []}
use Rattle.std.specs.Prelude.{◌++◌, ◌∷◌, length}
use Rattle.std.specs.Prelude.{Result, OnOk, IfErr}
use Rattle.pram_job.specs.declared.instr.Instr.{Instr}
use Rattle.pram_job.specs.declared.instr.Instr.TheVariants.{Eq, Jmp, Jz, Lt}
use Rattle.pram_job.specs.declared.instr.Operand.{Operand}
use Rattle.pram_job.specs.declared.instr.Operand.TheVariants.{Number, Register}
use Rattle.pram_job.specs.declared.limits.TheConstants.{MAX_CODE}
use Rattle.pardo_program.specs.declared.statement.Target.{Target}
use Rattle.pardo_program.specs.declared.statement.Target.TheVariants.{Private, Array as Shared}
use Rattle.pardo_program.specs.Expression.{Tree}
use Rattle.pardo_flat.specs.Layouts.{ProgramLayoutData, mask_cells}
use Rattle.pardo_job.specs.declared.fault.JobKind.{JobKind}
use Rattle.pardo_job.specs.declared.fault.JobKind.TheVariants.{TooDeep, TooLong, Memory}
use Rattle.pardo_job.specs.Lawful.{IsLawfulTree}
use Rattle.pardo_job.specs.Lines.{no_code}
use Rattle.pardo_job.specs.Operations.{is_shallow}
use Rattle.pardo_job.specs.Values.{own_load, value_operand, takes, value_code}

-- what an assignment goes to is there
abbrev pub IsLawfulTarget : ProgramLayoutData → Target → Type 0
IsLawfulTarget layout (Private x) = x < layout.privates
IsLawfulTarget layout (Shared array index) =
    (array < length layout.arrays) × IsLawfulTree layout index

-- the code of the bounds of a loop, and where their values are
abbrev pub bounds_code : ProgramLayoutData → Tree → Tree → List Instr
bounds_code layout first last =
    value_code layout 0 first ++ value_code layout (takes first) last

abbrev pub bounds_operands : Tree → Tree → Operand × Operand
bounds_operands first last = (value_operand 0 first, value_operand (takes first) last)

-- what an active processor does, and the others are idle as long, where an `if` is open
abbrev pub under : ProgramLayoutData → ℕ → ℕ → List Instr → List Instr
under layout at depth body = own_load 0 (mask_cells layout depth) ∷ Jz 0 (at + 3)
    ∷ Jmp (at + 4 + length body)
    ∷ (no_code (at + 3) (length body) ++ Jmp (at + 4 + 2 * length body) ∷ body)

-- the condition of active processors, and 0 of the others
abbrev pub choice_code : ProgramLayoutData → ℕ → ℕ → List Instr → List Instr
choice_code layout at depth body = if depth == 0 then body
    else own_load 0 (mask_cells layout depth) ∷ Jz 0 (at + 3 + length body)
    ∷ (body ++ Jmp (at + 4 + 2 * length body) ∷ no_code (at + 3 + length body) (length body + 1))

-- register 0 becomes 1 for those of the mask around that it is 0 for
abbrev pub rest_code : ProgramLayoutData → ℕ → List Instr
rest_code layout depth = if depth == 0 then Eq 0 0 (Number 0) ∷ []
    else own_load 1 (mask_cells layout depth) ∷ Lt 0 0 (Register 1) ∷ []

-- what may be wrong with the code of a line: it is not shallow, or it is too long, or memory ran
-- out
abbrev pub IsLineFault : List Instr → JobKind → Type 0
IsLineFault code TooDeep = is_shallow code ≡ false
IsLineFault code TooLong = (is_shallow code ≡ true) × (MAX_CODE < length code)
IsLineFault code Memory = Unit {0}
IsLineFault code _ = ⊥

-- the shallow code of a line is put after the old code, or it is at fault
pub record PutsLine {A : Type 0} (old new : List Instr) (result : Result A JobKind)
    (code : List Instr) : Type 0 where
  pub all : OnOk result (new ≡ old ++ code)
  pub shallow : OnOk result (is_shallow code ≡ true)
  pub fault : IfErr result (IsLineFault code)
