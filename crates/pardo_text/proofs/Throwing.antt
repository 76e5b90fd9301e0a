-- Values that are thrown fit, and items are shuffled one by one.
use Rattle.std.proofs.Common.{◌≡◌, ℕ, zero, suc, ◌+◌, ◌-◌, ◌*◌, ◌/◌, ◌^◌, ◌<◌, ◌≤◌, ◌++◌, ◌∷◌, [], List, arith}
use Rattle.std.proofs.Common.{ap, append_assoc, sym, ◌∙◌}
use Rattle.std.specs.List.{swap}
use Rattle.std.proofs.lemmas.Nat.{mul-le}
use Rattle.std.proofs.Math.Nat.{div-le_of_le-mul, div-lt_iff_lt-mul}
use Rattle.pardo_text.specs.Thrown.{seed_after, thrown_below, shuffled, thrown_by}

pub part_fits : (place places below number : ℕ) → place < places → below < 2 ^ 32 →
    number < 2 ^ 32 → (place * below + number) / places < 2 ^ 32
part_fits place places below number inside few less =
    let row : place * below ≤ place * 4294967295 =
    mul-le place below place 4294967295 (omega arith) (omega (arith, few)) in
    let all : place * below + number ≤ places * 4294967295 = omega (arith, row, inside, less) in
    let most = div-le_of_le-mul places all in omega (arith, most)

pub below_fits : (below seed : ℕ) → 0 < below → seed < 2 ^ 32 → thrown_below below seed < below
below_fits below seed some few =
    let row : seed * below ≤ 4294967295 * below =
    mul-le seed below 4294967295 below (omega (arith, few)) (omega arith) in
    let all : seed * below < below * 2 ^ 32 = omega (arith, row, some) in
    (div-lt_iff_lt-mul {k = 2 ^ 32} {x = seed * below} {y = below} (omega arith)).1 all

pub shuffled_next : (left seed : ℕ) (items : List ℕ) → 1 < left →
    shuffled (left - 1 - 1) (seed_after seed)
    (swap items (left - 1) (thrown_below left (seed_after seed)))
    ≡ shuffled (left - 1) seed items
shuffled_next zero seed items more = absurd (omega (arith, more))
shuffled_next (suc zero) seed items more = absurd (omega (arith, more))
shuffled_next (suc (suc k)) seed items more =
    let one : suc (suc k) - 1 ≡ suc k = omega arith in
    let two : suc k - 1 ≡ k = omega arith in
    let three : suc (suc k) ≡ k + 2 = omega arith in
    rw one (rw two (ap (λ (n : ℕ). shuffled k (seed_after seed)
    (swap items (suc k) (thrown_below n (seed_after seed)))) three))

-- one value more
pub thrown_next : (value : ℕ → ℕ → ℕ) (before after whole : List ℕ) (k n m seed next v : ℕ) →
    n ≡ suc m → next ≡ seed_after seed → v ≡ value k next → after ≡ before ++ v ∷ [] →
    before ++ thrown_by value k n seed ≡ whole → after ++ thrown_by value (k + 1) m next ≡ whole
thrown_next value before after whole k n m seed next v count seeds is added given =
    ap (λ (l : List ℕ). l ++ thrown_by value (k + 1) m next) added
    ∙ append_assoc before (v ∷ []) (thrown_by value (k + 1) m next)
    ∙ ap (λ (w : ℕ). before ++ w ∷ thrown_by value (k + 1) m next) is
    ∙ ap (λ (s : ℕ). before ++ value k s ∷ thrown_by value (k + 1) m s) seeds
    ∙ ap (λ (c : ℕ). before ++ thrown_by value k c seed) (sym count)
    ∙ given
