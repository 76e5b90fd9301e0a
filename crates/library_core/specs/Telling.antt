-- What the last step of a call tells.
use Rattle.std.specs.Prelude.{◌≡◌, ◌⊎◌, ℕ, List}
use Rattle.refusals.specs.declared.fault.CommandFault.TheVariants.{Memory}
use Rattle.library_core.specs.declared.fault.CallFault.{CallFault}
use Rattle.library_core.specs.declared.fault.CallFault.TheVariants.{Request, Command}
use Rattle.library_core.specs.declared.request.RequestFault.{RequestFault}

-- these items, with this status
abbrev pub AreThese : {A : Type 0} → List A → ℕ → List A → ℕ → Type 0
AreThese these its items status = (items ≡ these) × (status ≡ its)

abbrev pub IsNever : CallFault → Type 0
IsNever fault = ⊥

abbrev pub IsRequest : RequestFault → CallFault → Type 0
IsRequest fault told = told ≡ Request fault

-- the fault, or that there is no memory to tell it
abbrev pub IsThisOrMemory : CallFault → CallFault → Type 0
IsThisOrMemory fault told = (told ≡ fault) ⊎ (told ≡ Command Memory)
