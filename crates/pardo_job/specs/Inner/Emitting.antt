-- Code that functions put after what is there.
use Rattle.std.specs.Prelude.{◌≡◌, true, false, List, ◌++◌, Result, OnOk, IfErr}
use Rattle.pram_job.specs.declared.instr.Instr.{Instr}
use Rattle.pardo_job.specs.declared.fault.JobKind.{JobKind}
use Rattle.pardo_job.specs.declared.fault.JobKind.TheVariants.{TooDeep, Memory}
use Rattle.pardo_job.specs.Operations.{is_shallow}

-- what may be wrong with code: it is not shallow, or memory ran out
abbrev pub IsCodeFault : List Instr → JobKind → Type 0
IsCodeFault code TooDeep = is_shallow code ≡ false
IsCodeFault code Memory = Unit {0}
IsCodeFault code _ = ⊥

-- shallow code is put after the old code, or the code is at fault
pub record PutsCode {A : Type 0} (old new : List Instr) (result : Result A JobKind)
    (code : List Instr) : Type 0 where
  pub all : OnOk result (new ≡ old ++ code)
  pub shallow : OnOk result (is_shallow code ≡ true)
  pub fault : IfErr result (IsCodeFault code)
