-- What is refused before a line is served.
use Rattle.std.specs.Prelude.{◌≡◌, ◌⊎◌, ℕ}
use Rattle.naming.specs.Writing.{Writing}
use Rattle.refusals.specs.declared.refusal.TheConstants.{FAILED, MEMORY, REFUSED}

-- It is refused for such a reason, or a file failed, or memory ran out, and nothing was written.
pub record RefusesSet (Reason : Type 0) (writes : Writing) (status : ℕ) : Type 0 where
  pub refused : status ≡ REFUSED → Reason
  pub told : (status ≡ REFUSED) ⊎ ((status ≡ FAILED) ⊎ (status ≡ MEMORY))
  pub unwritten : writes.Unwritten
