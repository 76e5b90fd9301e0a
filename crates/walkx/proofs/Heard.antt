-- What was heard, newest first.
use Rattle.std.proofs.Common.{◌≡◌, ◌≢◌, add-one, get_or-set_other, get_or-set_same, ℕ}
use Rattle.std.proofs.Common.{zero, suc, ◌+◌, ◌<◌, ◌≤◌, List, ◌∷◌, length, refl, ap, arith}
use Rattle.std.specs.Prelude.{slice_set}
use lib.ListN.{take}
use Rattle.std.proofs.lemmas.List.{get_or-take, length-take}
use Rattle.walkx.specs.Inner.Heard.{newest}

newest-set : (n k v : ℕ) (xs : List ℕ) → n ≤ k → newest n (slice_set xs k v) ≡ newest n xs
newest-set zero k v xs h = refl
newest-set (suc n) k v xs h =
    let other : n ≢ k = omega arith in
    rw (newest-set n k v xs (omega arith), get_or-set_other)

pub newest-push : (n v : ℕ) (xs : List ℕ) → n < length xs →
    newest (n + 1) (slice_set xs n v) ≡ v ∷ newest n xs
newest-push n v xs h = rw (add-one, newest-set n n v xs (omega arith), get_or-set_same)

newest_take : (n k : ℕ) (xs : List ℕ) → k ≤ n → n ≤ length xs → newest k (take n xs) ≡ newest k xs
newest_take n zero xs few within = refl
newest_take n (suc k) xs few within =
    rw (newest_take n k xs (omega arith) within, get_or-take n xs k 0 (omega arith)) refl

pub newest_all : (n : ℕ) (xs : List ℕ) → n ≤ length xs →
    newest (length (take n xs)) (take n xs) ≡ newest n xs
newest_all n xs within =
    let e : length (take n xs) ≡ n = omega (arith, length-take n xs) in
    rw e (newest_take n n xs (omega arith) within)

-- there are as many as were asked for
pub length_newest : (n : ℕ) (xs : List ℕ) → length (newest n xs) ≡ n
length_newest zero xs = refl
length_newest (suc n) xs = ap suc (length_newest n xs)
