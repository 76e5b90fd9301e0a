-- A line that is cut at its first comma.
use Rattle.std.proofs.Common.{◌≡◌, ℕ, zero, suc, ◌+◌, ◌<◌, ◌≤◌, ◌==◌, Bool, true, false, cond}
use Rattle.std.proofs.Common.{nat_lt, List, [], ◌∷◌, length, take, drop, Some, None}
use Rattle.std.proofs.Common.{refl, ap, ◌∙◌, arith}
use Rattle.std.specs.List.{onto_first, position, position_or_len, slice_split}
use Rattle.std.proofs.lemmas.Bool.Decides.{nat_tests}
use Rattle.std.proofs.lemmas.List.Splits.{slice_split-cons_yes, slice_split-cons_no}

-- what was chosen by a test
chosen_some : (b : Bool) (a at : ℕ) → cond b (Some a) None ≡ Some at → (b ≡ true) × (a ≡ at)
chosen_some true a at e = (refl, cc)
chosen_some false a at e = absurd (let other : None ≡ Some at = e in cc)

chosen_none : (b : Bool) (a : ℕ) → cond b (Some a) None ≡ None → b ≡ false
chosen_none true a e = absurd (let other : Some a ≡ None = e in cc)
chosen_none false a e = refl

-- nothing passes
pub never_passes : (p : ℕ → Bool) (xs : List ℕ) → position p xs ≡ None →
    length xs ≤ position_or_len p xs
never_passes p xs e =
    let over : nat_lt (position_or_len p xs) (length xs) ≡ false = chosen_none _ _ e in
    grind (arith, nat_tests)

-- this is the first that passes
pub first_passes : (p : ℕ → Bool) (xs : List ℕ) (at : ℕ) → position p xs ≡ Some at →
    (position_or_len p xs ≡ at) × (at < length xs)
first_passes p xs at e =
    let found = chosen_some _ _ _ e in
    let low : nat_lt (position_or_len p xs) (length xs) ≡ true = found.0 in
    let same : position_or_len p xs ≡ at = found.1 in
    (same, grind (arith, nat_tests))

abbrev pub is_comma : ℕ → Bool
is_comma b = b == 44

pub by_test : {C : Type 0} (b : Bool) → (b ≡ true → C) → (b ≡ false → C) → C
by_test true holds fails = holds refl
by_test false holds fails = fails refl

-- the place in a longer list
shifted : (p : ℕ → Bool) (x : ℕ) (xs : List ℕ) → p x ≡ false →
    position_or_len p (x ∷ xs) ≡ 1 + position_or_len p xs
shifted p x xs e = rw e refl

at_once : (p : ℕ → Bool) (x : ℕ) (xs : List ℕ) → p x ≡ true → position_or_len p (x ∷ xs) ≡ 0
at_once p x xs e = rw e refl

pub parts_none : (xs : List ℕ) → length xs ≤ position_or_len is_comma xs →
    slice_split is_comma xs ≡ xs ∷ []
parts_none [] over = refl
parts_none (x ∷ xs) over = by_test (is_comma x)
    (λ holds. absurd (omega (arith, at_once is_comma x xs holds)))
    (λ fails. slice_split-cons_no is_comma x xs fails
    ∙ ap (onto_first x) (parts_none xs (omega (arith, shifted is_comma x xs fails))))

pub parts_some : (xs : List ℕ) (at : ℕ) → position_or_len is_comma xs ≡ at → at < length xs →
    slice_split is_comma xs ≡ take at xs ∷ slice_split is_comma (drop (suc at) xs)
parts_some [] at e low = absurd (omega arith)
parts_some (x ∷ xs) zero e low = by_test (is_comma x)
    (λ holds. slice_split-cons_yes is_comma x xs holds)
    (λ fails. absurd (omega (arith, shifted is_comma x xs fails)))
parts_some (x ∷ xs) (suc at) e low = by_test (is_comma x)
    (λ holds. absurd (omega (arith, at_once is_comma x xs holds)))
    (λ fails. slice_split-cons_no is_comma x xs fails
    ∙ ap (onto_first x) (parts_some xs at (omega (arith, shifted is_comma x xs fails)) (omega arith)))
