-- Claims of which little is to be done.
use Rattle.std.proofs.Common.{◌≡◌, ℕ, suc, zero, ◌+◌, ◌-◌, ◌<◌, ◌≤◌, List, [], ◌∷◌, length, Option}
use Rattle.std.proofs.Common.{Some, None, slice_get, refl, ap, subst, arith}
use Rattle.std.specs.Prelude.{IsSome, slice_set}
use Rattle.std.proofs.lemmas.Option.{slice_get_within}
use Rattle.pram_job.specs.declared.instr.Instr.TheVariants.{St}
use Rattle.pram_job.specs.declared.instr.Operand.{Operand}
use Rattle.walk_memory.specs.declared.load_in.Claims.{Claims}
use Rattle.walk_memory.specs.declared.memo.Memo.{Memo}
use Rattle.walk_memory.specs.Inner.Posts.{PostData, at_rank}
use Rattle.walk_memory.specs.Memory.{memo_of}
use Rattle.walk_memory.specs.Plain.{AllClaimBy, ClaimsPlainly}
use Rattle.walk_memory.proofs.Done.{after}

-- the same at another rank
pub claim_at : (at : PostData) (rank : ℕ) (memo : Memo) (cell : ℕ) (operand : Operand) →
    ClaimsPlainly at memo cell operand → ClaimsPlainly (at_rank at rank) memo cell operand
claim_at at rank memo cell operand is = record {
  first = is.first;
  before = is.before;
  place = is.place;
  code = is.code;
  reaches = is.reaches;
  below = is.below;
  rule = is.rule;
  lags = is.lags;
}

pub none_there : (o : Option Memo) → o ≡ None → IsSome o → ⊥
none_there None e some = absurd (cc)
none_there (Some m) e some = absurd (cc)

pub get_set_other : (memory : List Memo) (i k : ℕ) (memo : Memo) → (i ≡ k → ⊥) →
    slice_get (slice_set memory i memo) k ≡ slice_get memory k
get_set_other [] i k memo other = refl
get_set_other (m ∷ memory) zero zero memo other = absurd (other refl)
get_set_other (m ∷ memory) zero (suc k) memo other = refl
get_set_other (m ∷ memory) (suc i) zero memo other = refl
get_set_other (m ∷ memory) (suc i) (suc k) memo other =
    get_set_other memory i k memo (λ e. other (ap suc e))

-- a lane that claims stands in the code
pub claim_counter : (at : PostData) (end : ℕ) (memory : List Memo) (claims : Claims) →
    AllClaimBy at end memory claims → (start last k : ℕ) → last + at.rank ≡ start + end →
    start ≤ k → k < last → (memo : Memo) → memo_of memory (after at (k - start)) ≡ memo →
    memo.own.counter < length at.job.code
claim_counter at end memory claims all start last k ends from to memo is =
    let claim = all (at.rank + (k - start)) (omega arith) (omega (arith, ends, from, to)) in
    slice_get_within at.job.code memo.own.counter (St claim.plain.place claims.operand)
    (subst (λ (m : Memo). slice_get at.job.code m.own.counter
    ≡ Some (St claim.plain.place claims.operand)) is claim.plain.code)
