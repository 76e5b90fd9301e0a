-- Rows that are written one after the other, and buffers whose front is written.
use Rattle.std.proofs.Common.{arith, ◌≡◌, ◌≢◌, ◌⊎◌, ℕ, zero, suc, ◌+◌, ◌-◌, ◌<◌, ◌≤◌}
use Rattle.std.proofs.Common.{List, [], ◌∷◌, ◌++◌, length, take, slice_get, slice_set}
use Rattle.std.proofs.Common.{Some, refl, sym, ap, subst, ◌∙◌, inl, inr, ◌==◌}
use Rattle.std.proofs.lemmas.Bool.{cases_Bool, cases_lt, eqb-true, eqb-false}
use Rattle.std.proofs.lemmas.List.{drop-set-lt, length-take-le}
use Rattle.pram_job.specs.Job.{JobData, IsJob}
use Rattle.pram_step.specs.Laws.{StatesHaveAllPlaces}
use Rattle.pram_machine.specs.Machine.{State, place_count}
use Rattle.pram_step.specs.Runs.{IsStateAfter}
use Rattle.page_core.specs.declared.rows.EventRow.{EventRow}
use Rattle.page_core.specs.Findings.{IsKeptBehind}
use Rattle.page_core.specs.Scenes.{IsNoted}

pub set_same : {X : Type 0} (xs : List X) (n : ℕ) (x : X) → n < length xs →
    slice_get (slice_set xs n x) n ≡ Some x
set_same [] n x h = absurd (omega arith)
set_same (z ∷ zs) zero x h = refl
set_same (z ∷ zs) (suc n) x h = set_same zs n x (omega arith)

pub set_other : {X : Type 0} (xs : List X) (b at : ℕ) (x : X) → at ≢ b →
    slice_get (slice_set xs b x) at ≡ slice_get xs at
set_other [] b at x apart = refl
set_other (z ∷ zs) zero zero x apart = absurd (apart refl)
set_other (z ∷ zs) zero (suc at) x apart = refl
set_other (z ∷ zs) (suc b) zero x apart = refl
set_other (z ∷ zs) (suc b) (suc at) x apart = set_other zs b at x (λ e. apart (ap suc e))

pub nat_cases : (a b : ℕ) → (a ≡ b) ⊎ (a ≢ b)
nat_cases a b = elim (cases_Bool (a == b)) [
  | inl same ↦ inl (eqb-true a b same)
  | inr apart ↦ inr (eqb-false a b apart)
]

-- the first n rows are these, and so is the next one, once it is written
pub written : {X : Type 0} (f : ℕ → X) (xs : List X) (n : ℕ) (x : X) → n < length xs →
    ((i : ℕ) → i < n → slice_get xs i ≡ Some (f i)) → x ≡ f n → (i : ℕ) → i < n + 1 →
    slice_get (slice_set xs n x) i ≡ Some (f i)
written f xs n x room before is i below = elim (nat_cases i n) [
  | inl same ↦ subst (λ (k : ℕ). slice_get (slice_set xs n x) k ≡ Some (f k))
      (sym same) (set_same xs n x room ∙ ap Some is)
  | inr apart ↦ set_other xs n i x apart ∙ before i (omega arith)
]

-- the front of a buffer is what was copied to it
in_front : {X : Type 0} (xs rest : List X) (n i : ℕ) (x : X) → i < n →
    slice_get xs i ≡ Some x → slice_get (take n xs ++ rest) i ≡ Some x
in_front [] rest n i x low at = absurd (cc)
in_front (y ∷ ys) rest zero i x low at = absurd (omega arith)
in_front (y ∷ ys) rest (suc n) zero x low at = at
in_front (y ∷ ys) rest (suc n) (suc i) x low at = in_front ys rest n i x (omega arith) at

pub told_rows : {X : Type 0} (f : ℕ → X) (m n : ℕ) (noted front rest : List X) → m ≤ n →
    front ≡ take n noted → ((i : ℕ) → i < m → slice_get noted i ≡ Some (f i)) → (i : ℕ) →
    i < m → slice_get (front ++ rest) i ≡ Some (f i)
told_rows {X} f m n noted front rest few copied rows i low =
    subst (λ (xs : List X). slice_get (xs ++ rest) i ≡ Some (f i)) (sym copied)
    (in_front noted rest n i (f i) (omega arith) (rows i low))

-- a state of the machine has all places
pub length_after : (job : JobData) (t : ℕ) (s : State) → StatesHaveAllPlaces → IsJob job →
    IsStateAfter job t s → length s ≡ place_count job
length_after job t s law limits after = ap length after.state ∙ (law job t limits).0

pub length_front : (job : JobData) (t n : ℕ) (s : State) → StatesHaveAllPlaces → IsJob job →
    IsStateAfter job t s → n ≤ job.cells → n ≡ length (take n s)
length_front job t n s law limits after few =
    let all : length s ≡ place_count job = length_after job t s law limits after in
    sym (length-take-le n s (omega arith))

-- ---- what lies after the elements that are written

pub kept_set : {X : Type 0} (n : ℕ) (old now : List X) (i : ℕ) (x : X) → i < n →
    IsKeptBehind n old now → IsKeptBehind n old (slice_set now i x)
kept_set n old now i x below kept = drop-set-lt n now i x below ∙ kept

-- a row of an event
pub kept_noted : (row : EventRow) (from n all : ℕ) (first old now : List EventRow) →
    n < all → IsNoted row from n old now → IsKeptBehind (all - from) first old →
    IsKeptBehind (all - from) first now
kept_noted row from n all first old now below noted kept = elim (cases_lt n from) [
  | inl early ↦
      subst (IsKeptBehind (all - from) first) (sym (noted.outside (λ low room. omega arith))) kept
  | inr low ↦ elim (cases_lt (n - from) (length old)) [
    | inl room ↦ subst (IsKeptBehind (all - from) first) (sym (noted.inside low room))
        (kept_set (all - from) first old (n - from) row (omega arith) kept)
    | inr full ↦
        subst (IsKeptBehind (all - from) first) (sym (noted.outside (λ low room. omega arith))) kept
  ]
]
