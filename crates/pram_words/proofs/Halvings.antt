-- Numbers of digits, leaves and depths.
use Rattle.std.proofs.Common.{◌≡◌, ℕ, ◌==◌, ◌+◌, ◌-◌, ◌*◌, ◌%◌, ◌^◌, ◌<◌}
use Rattle.std.proofs.Common.{◌≤◌, inl, inr, refl, sym, ap, ◌∙◌, arith}
use Rattle.std.proofs.lemmas.Nat.{leading_length, pow_pos, pow_below, pow-add, and_mask}
use Rattle.std.proofs.lemmas.Nat.Bits.{bit_at_and, bit_at_ones}
use Rattle.std.proofs.Math.Nat.{pow-le-pow_right}
use Rattle.std.proofs.lemmas.Bool.{cases_order, eqb-true, eq-eqb}
use Rattle.std.specs.Int.{IsPowerOfTwo, IsNextPowerOfTwo, leading_zeros, bit_at, w32}
use Rattle.std.specs.Int.Count.{leading_unique}
use Rattle.pram_words.specs.Tree.{digits_of, leaves_of, depth_of, turns_right, IsTurn}

pub double : (k : ℕ) → 2 ^ (k + 1) ≡ 2 * 2 ^ k
double k = omega (arith, pow-add 2 k 1)

-- a smaller power has a smaller exponent
pub exponents : (j k : ℕ) → 2 ^ j < 2 ^ k → j < k
exponents j k h = elim (cases_order j k) [
  | inl e ↦ absurd (let f : 2 ^ j ≡ 2 ^ k = ap (λ x. 2 ^ x) e in omega arith)
  | inr c ↦ elim c [ inl l ↦ l | inr g ↦ absurd (let f = pow_below k j g in omega arith) ]
]

-- a number with its number of digits
pub digits : (n : ℕ) → n < 2 ^ 32 →
    (n < 2 ^ digits_of n) × (2 ^ digits_of n ≤ 2 * n + 1) × (digits_of n ≤ 32)
unfolding digits_of
digits n h =
    let found = leading_length 32 n h in
    let e : 32 - leading_zeros w32 n ≡ found.0 = omega (arith, found.1) in
    rw e (found.2, found.3, omega (arith, found.1))

pub digits_unique : (n m : ℕ) → n < 2 ^ 32 → n < 2 ^ m → 2 ^ m ≤ 2 * n + 1 → m ≡ digits_of n
unfolding digits_of
digits_unique n m h below above =
    let small : m < 33 = exponents m 33 (omega arith) in
    omega (arith, leading_unique 32 n (32 - m) m (omega arith) below above)

-- the least power of two that is at least n is `leaves_of n`
pub leaves_from_next : (n p : ℕ) → n ≤ 2 ^ 31 → IsNextPowerOfTwo n p → p ≡ leaves_of n
unfolding leaves_of
leaves_from_next n p h next =
    let k : ℕ = next.0.0 in
    let e : p ≡ 2 ^ k = next.0.1 in
    let pos = pow_pos k in
    let m : k ≡ digits_of (n - 1) =
    digits_unique (n - 1) k (omega arith) (omega (arith, next.1)) (omega (arith, next.2)) in
    e ∙ ap (λ x. 2 ^ x) m

pub leaves_least : (n : ℕ) → 1 ≤ n → n ≤ 2 ^ 31 →
    (n ≤ leaves_of n) × (leaves_of n < 2 * n) × IsPowerOfTwo (leaves_of n)
unfolding leaves_of
leaves_least n some most =
    let d = digits (n - 1) (omega arith) in
    (omega arith, omega arith, (digits_of (n - 1), refl))

-- up to 65,536 processors have at most 65,536 leaves
pub leaves_most : (n : ℕ) → 1 ≤ n → n ≤ 65536 → (1 ≤ leaves_of n) × (leaves_of n ≤ 65536)
leaves_most n some most =
    let l = leaves_least n some (omega arith) in
    let k : ℕ = l.2.0 in
    let e : leaves_of n ≡ 2 ^ k = l.2.1 in
    let small : k < 17 = exponents k 17 (omega arith) in
    let most : 2 ^ k ≤ 65536 =
    pow-le-pow_right {n = 2} (omega arith) {i = k} {j = 16} (omega arith) in
    (omega arith, omega arith)

pub depth_unique : (n d : ℕ) → n < 2 ^ 32 → 2 ^ d ≤ n → n < 2 * 2 ^ d → d ≡ depth_of n
unfolding depth_of
depth_unique n d h low high =
    let e = double d in
    omega (arith, digits_unique n (d + 1) h (omega arith) (omega arith))

-- a power of two that lies between one and its double is that one
pub power_unique : (l d : ℕ) → IsPowerOfTwo l → 2 ^ d ≤ l → l < 2 * 2 ^ d → l ≡ 2 ^ d
power_unique l d power low high =
    let k : ℕ = power.0 in
    let e : l ≡ 2 ^ k = power.1 in
    let below : k < d + 1 = exponents k (d + 1) (omega (arith, double d)) in
    elim (cases_order k d) [
      | inl same ↦ e ∙ ap (λ x. 2 ^ x) same
      | inr c ↦ elim c [
        | inl less ↦ absurd (let f = pow_below k d less in omega arith)
        | inr more ↦ absurd (omega arith)
      ]
    ]

-- an inner node lies above the leaves
pub depth_below : (l n h d : ℕ) → l ≡ 2 ^ h → n < l → 2 ^ d ≤ n → d < h
depth_below l n h d e inner low = exponents d h (omega arith)

-- `turns_right` is the bit that it is meant to be
pub turn : (l worker n : ℕ) → l < 2 ^ 32 → n < 2 ^ 32 → IsTurn l worker n (turns_right l worker n)
turn l worker n l_fits n_fits = λ h d e low high.
    let height : h ≡ depth_of l =
    depth_unique l h l_fits (omega arith) (let pos = pow_pos h in omega arith) in
    let depth : d ≡ depth_of n = depth_unique n d n_fits low (omega (arith, double d)) in
    rw (height, depth) (
      eqb-true (bit_at (worker % l) (depth_of l - 1 - depth_of n)) 1,
      eq-eqb (bit_at (worker % l) (depth_of l - 1 - depth_of n)) 1,
    )

-- a bit below l is the same in w and in w mod l
pub turn_bit : (l worker n h : ℕ) → l ≡ 2 ^ h → h ≡ depth_of l → depth_of n < h →
    turns_right l worker n ≡ (bit_at worker (h - 1 - depth_of n) == 1)
turn_bit l worker n h e height inner =
    let one = bit_at_ones h (h - 1 - depth_of n) (omega arith) in
    let same : bit_at (worker % 2 ^ h) (h - 1 - depth_of n) ≡ bit_at worker (h - 1 - depth_of n) =
    ap (λ x. bit_at x (h - 1 - depth_of n)) (sym (and_mask worker h))
    ∙ bit_at_and worker (2 ^ h - 1) (h - 1 - depth_of n) ∙ omega arith in
    rw (← height, e, same) refl
