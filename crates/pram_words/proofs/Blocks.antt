-- How many leaves there are where each stands for a block of processors.
use Rattle.std.proofs.Common.{min, ◌≡◌, ℕ, zero, suc, ◌+◌, ◌*◌, ◌/◌, ◌^◌}
use Rattle.std.proofs.Common.{◌<◌, ◌≤◌, inl, inr, ap, ◌∙◌, arith}
use Rattle.std.proofs.lemmas.Bool.{cases_lt}
use Rattle.std.proofs.lemmas.Grind.{div_ceil_times}
use Rattle.std.proofs.lemmas.Nat.{pow_pos, pow-add}
use Rattle.std.proofs.Math.Nat.{pow-le-pow_right, mul-le-mul_left, mul-le-mul_right, mul_comm}
use Rattle.std.proofs.Math.Nat.{add-mul, mul-add, min-le_left, min-le_right}
use Rattle.std.proofs.Math.Nat.{lt_of_mul-lt-mul_left, mul-div-le}
use Rattle.std.specs.Int.{IsPowerOfTwo, IsNextPowerOfTwo, div_ceil}
use Rattle.pram_words.specs.Tree.{leaves_of}
use Rattle.pram_words.specs.Words.{LayoutData, IsLayout, IsGrain, grain}
use Rattle.pram_words.proofs.Halvings.{double, exponents, leaves_least, leaves_most}

one_block : (n g : ℕ) → 1 ≤ g → 1 ≤ n → 1 ≤ div_ceil n g
one_block n g some positive = elim (cases_lt (div_ceil n g) 1) [
  | inl c ↦ absurd (let none : div_ceil n g ≡ 0 = omega arith in
      let times : n ≤ div_ceil n g * g = (div_ceil_times n g some).0 in
      let empty : div_ceil n g * g ≡ 0 = ap (λ m. m * g) none ∙ omega arith in omega arith)
  | inr c ↦ c
]

few_blocks : (n g : ℕ) → 1 ≤ g → 1 ≤ n → div_ceil n g ≤ n
few_blocks n g some positive = elim (cases_lt n (div_ceil n g)) [
  | inl c ↦ absurd (
      let times : div_ceil n g * g < n + g = (div_ceil_times n g some).1 in
      let more : (n + 1) * g ≤ div_ceil n g * g = mul-le-mul_right g (omega arith) in
      let spread : (n + 1) * g ≡ n * g + g = add-mul n 1 g ∙ omega arith in
      let up : n * 1 ≤ n * g = mul-le-mul_left n some in
      omega arith)
  | inr c ↦ c
]

-- processors that fit one block have one leaf
one_leaf : (n g : ℕ) → 1 ≤ g → 1 ≤ n → n ≤ g → leaves_of (div_ceil n g) ≡ 1
one_leaf n g some positive fits =
    let one : div_ceil n g ≡ 1 = single n g some positive fits in
    let least = leaves_least 1 (omega arith) (omega arith) in
    rw one (omega (arith, least.0, least.1))
  where
    single : (n g : ℕ) → 1 ≤ g → 1 ≤ n → n ≤ g → div_ceil n g ≡ 1
    single n g some positive fits = elim (cases_lt (div_ceil n g) 2) [
      | inl c ↦ (let low = one_block n g some positive in omega arith)
      | inr c ↦ absurd (let times : div_ceil n g * g < n + g = (div_ceil_times n g some).1 in
          let more : 2 * g ≤ div_ceil n g * g = mul-le-mul_right g c in omega arith)
    ]

-- the number of blocks
some_blocks : (n g : ℕ) → 1 ≤ g → 1 ≤ n → n ≤ 65536 →
    (1 ≤ div_ceil n g) × (div_ceil n g ≤ n)
some_blocks n g some positive most = (one_block n g some positive, few_blocks n g some positive)

-- the leaves' blocks have room for all processors
pub blocks_room : (g n : ℕ) → 1 ≤ g → 1 ≤ n → n ≤ 65536 → n ≤ g * leaves_of (div_ceil n g)
blocks_room g n some positive most =
    let times = div_ceil_times n g some in
    let few = some_blocks n g some positive most in
    let least = leaves_least (div_ceil n g) few.0 (omega (arith, few.1)) in
    let up = mul-le-mul_left g least.0 in
    omega (arith, times.0, mul_comm g (div_ceil n g))

-- and no more than a power of two that has it
fits_below : (k p n a : ℕ) → n ≤ 2 ^ p → k ≤ p → 2 ^ a < 2 * div_ceil n (2 ^ k) →
    2 ^ k * 2 ^ a ≤ 2 ^ p
fits_below k p n zero most small less =
    omega (arith, pow-le-pow_right {n = 2} (omega arith) {i = k} {j = p} small)
fits_below k p n (suc a) most small less =
    let times = div_ceil_times n (2 ^ k) (pow_pos k) in
    let c = div_ceil n (2 ^ k) in
    let more : 2 ^ a + 1 ≤ c = omega (arith, double a) in
    let up : 2 ^ k * (2 ^ a + 1) ≤ 2 ^ k * c = mul-le-mul_left (2 ^ k) more in
    let spread : 2 ^ k * (2 ^ a + 1) ≡ 2 ^ k * 2 ^ a + 2 ^ k =
    mul-add (2 ^ k) (2 ^ a) 1 ∙ omega arith in
    let under : 2 ^ (k + a) < 2 ^ p =
    omega (arith, times.1, mul_comm (2 ^ k) c, pow-add 2 k a) in
    let next : 2 ^ (k + suc a) ≤ 2 ^ p =
    pow-le-pow_right {n = 2} (omega arith) {i = k + suc a} {j = p}
    (omega (arith, exponents (k + a) p under)) in
    omega (arith, next, pow-add 2 k (suc a))

pub blocks_fit : (k p n : ℕ) → 1 ≤ n → n ≤ 65536 → n ≤ 2 ^ p → k ≤ p →
    2 ^ k * leaves_of (div_ceil n (2 ^ k)) ≤ 2 ^ p
blocks_fit k p n positive most below small =
    let few = some_blocks n (2 ^ k) (pow_pos k) positive most in
    let least = leaves_least (div_ceil n (2 ^ k)) few.0 (omega (arith, few.1)) in
    rw least.2.1 (fits_below k p n least.2.0 below small (omega (arith, least.1, least.2.1)))

-- the number of leaves is a power of two
pub leaves_power : (y : LayoutData) → IsLayout y → IsPowerOfTwo y.leaves
leaves_power y limits =
    let some : 1 ≤ grain y = rw limits.block.0.1 (pow_pos limits.block.0.0) in
    let few = some_blocks y.procs (grain y) some limits.procs.0 limits.procs.1 in
    rw limits.least (leaves_least (div_ceil y.procs (grain y)) few.0 (omega (arith, few.1))).2

-- the limits of so many leaves
pub record Leaves (g n : ℕ) : Type 0 where
  pub leaves : (1 ≤ leaves_of (div_ceil n g)) × (leaves_of (div_ceil n g) ≤ 65536)
  pub room : (n ≤ g * leaves_of (div_ceil n g)) × (g * leaves_of (div_ceil n g) ≤ 65536)

pub leaves_limits : (g n : ℕ) → IsGrain g → 1 ≤ n → n ≤ 65536 → Leaves g n
leaves_limits g n is positive most =
    let k : ℕ = is.0.0 in
    let power : g ≡ 2 ^ k = is.0.1 in
    let some : 1 ≤ g = rw power (pow_pos k) in
    let few = some_blocks n g some positive most in
    let small : k < 7 = exponents k 7 (omega (arith, power, is.1)) in
    let fit : g * leaves_of (div_ceil n g) ≤ 65536 =
    rw power (blocks_fit k 16 n positive most most (omega arith)) in
    record {
      leaves = leaves_most (div_ceil n g) few.0 (omega (arith, few.1));
      room = (blocks_room g n some positive most, fit);
    }

-- the size of a block that is chosen
pub grain_chosen : (n size : ℕ) → n ≤ 64 → IsNextPowerOfTwo n size → IsGrain size
grain_chosen n size few next =
    let k : ℕ = next.0.0 in
    let power : size ≡ 2 ^ k = next.0.1 in
    let small : k < 7 = exponents k 7 (omega (arith, power, next.2)) in
    let most : 2 ^ k ≤ 64 = pow-le-pow_right {n = 2} (omega arith) {i = k} {j = 6} (omega arith) in
    (next.0, omega (arith, power))

-- The leaves are no more than the least power of two that is at least the number of processors, and
-- neither are the tasks of a pass, with those that are spared at the end.
pub tasks_fit : (y : LayoutData) → IsLayout y →
    (y.leaves ≤ leaves_of y.procs)
    × (y.leaves * min (grain y) y.procs ≤ leaves_of y.procs)
tasks_fit y limits =
    let n = y.procs in
    let k : ℕ = limits.block.0.0 in
    let power : grain y ≡ 2 ^ k = limits.block.0.1 in
    let some : 1 ≤ grain y = rw power (pow_pos k) in
    let all = leaves_least n limits.procs.0 (omega (arith, limits.procs)) in
    let p : ℕ = all.2.0 in
    let most : leaves_of n ≡ 2 ^ p = all.2.1 in
    elim (cases_lt p k) [
      | inl c ↦ (let up = pow-le-pow_right {n = 2} (omega arith) {i = p} {j = k} (omega arith) in
          let single =
          one_leaf n (grain y) some limits.procs.0 (omega (arith, all.0, most, power)) in
          let e : y.leaves ≡ 1 = limits.least ∙ single in
          rw e (omega (arith, all.0, limits.procs), omega (arith, all.0, min-le_right (grain y) n)))
      | inr c ↦ (let fit = blocks_fit k p n limits.procs.0 limits.procs.1
          (omega (arith, all.0, most)) c in
          let whole : grain y * y.leaves ≤ leaves_of n = rw (limits.least, power, most) fit in
          let less : y.leaves * min (grain y) n ≤ y.leaves * grain y =
          mul-le-mul_left y.leaves (min-le_left (grain y) n) in
          let one : y.leaves * 1 ≤ y.leaves * grain y = mul-le-mul_left y.leaves some in
          (omega (arith, mul_comm y.leaves (grain y)), omega (arith, mul_comm y.leaves (grain y))))
    ]

-- the block of a processor has a leaf
pub block_below : (y : LayoutData) (i : ℕ) → IsLayout y → i < y.procs → i / grain y < y.leaves
block_below y i limits proc =
    lt_of_mul-lt-mul_left (grain y) (omega (arith, mul-div-le i (grain y), limits.room))
