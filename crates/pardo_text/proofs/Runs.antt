-- What stands in front of a place.
use Rattle.std.proofs.Common.{◌≡◌, ℕ, ◌<◌, ◌≤◌, Bool, true, false, not, List, length, take}
use Rattle.std.proofs.Common.{unwrap_or, get_or, refl, arith, get_or-take, length-take}
use Rattle.std.specs.List.{position, position_or_len, AllPass}
use Rattle.std.proofs.lemmas.Bool.Decides.{nat_tests}
use Rattle.std.proofs.lemmas.List.Sums.{prefix_len-le-length, fails_before_first}
use Rattle.pardo_text.specs.Tokens.{run_len}

-- the first place that passes, or the length
pub unwrap_or-position : (p : ℕ → Bool) (xs : List ℕ) →
    unwrap_or (position p xs) (length xs) ≡ position_or_len p xs
unwrap_or-position p xs =
    let few : position_or_len p xs ≤ length xs = prefix_len-le-length (λ x. not (p x)) xs in
    grind (arith, nat_tests)

passes : (b : Bool) → not b ≡ false → b ≡ true
passes true e = refl
passes false e = absurd (let other : true ≡ false = e in cc)

-- a run passes
pub run_passes : (p : ℕ → Bool) (xs : List ℕ) → AllPass p (take (run_len p xs) xs)
run_passes p xs k d few =
    let len : run_len p xs ≡ position_or_len (λ x. not (p x)) xs =
    unwrap_or-position (λ x. not (p x)) xs in
    let lt : k < run_len p xs = omega (arith, length-take (run_len p xs) xs) in
    rw (get_or-take (run_len p xs) xs k d lt)
    (passes (p (get_or xs k d)) (fails_before_first (λ x. not (p x)) xs k d (omega arith)))
