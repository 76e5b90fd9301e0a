-- A data place that is that of a cell, or not.
use Rattle.std.proofs.Common.{◌≡◌, ◌-◌, ◌==◌, ◌&&◌, Bool, true, false}
use Rattle.std.proofs.Common.{not, nat_lt, if◌then◌else◌, ℕ, refl, ap}
use Rattle.pram_job.specs.declared.instr.Rule.{Rule}
use Rattle.walkx.specs.Scripts.{Script, asks}
use Rattle.walkx.specs.Walk.{Then}
use Rattle.walk_memory.specs.Inner.Posts.{PostData}
use Rattle.walkx.specs.Parts.{is_cell_part, claims_data, claim_raised, claim_loaded}
use Rattle.walkx.specs.Parts.{owns, after_claim, compares_claim, compares_own, readies}

cell_then : {A : Type 0} (b c : Bool) (n x : A) → (not b && c) ≡ true →
    (if b then n else (if c then x else n)) ≡ x
cell_then true c n x is = absurd (cc)
cell_then false true n x is = refl
cell_then false false n x is = absurd (cc)

module _ (at : PostData) (place : ℕ) (after : Script Then) where
  pub claims_it : (next : Unit {0} → Script Then) → is_cell_part at.job place ≡ true →
      claims_data at place after next ≡ asks (claim_raised at (place - 1)) (λ found. next tt)
  claims_it next is = cell_then (place == 0) (nat_lt (place - 1) at.job.cells) _ _ is

  pub owns_it : (next : ℕ → Script Then) → is_cell_part at.job place ≡ true →
      owns at place after next
      ≡ asks (claim_loaded at (place - 1)) (after_claim at place after next)
  owns_it next is = cell_then (place == 0) (nat_lt (place - 1) at.job.cells) _ _ is

  pub compares_it : (next : Unit {0} → Script Then) → is_cell_part at.job place ≡ true →
      compares_claim at place after next
      ≡ asks (claim_loaded at (place - 1)) (compares_own at after next)
  compares_it next is = cell_then (place == 0) (nat_lt (place - 1) at.job.cells) _ _ is

  pub readies_by : (next : ℕ → Script Then) (r s : Rule) → r ≡ s →
      readies r at place after next ≡ readies s at place after next
  readies_by next r s is = ap (λ (x : Rule). readies x at place after next) is
