-- The sizes of blocks.
use Rattle.std.proofs.Common.{◌≡◌, ◌≢◌, ◌<◌, ◌≤◌, ◌*◌, ◌^◌, ◌%◌, ℕ, arith}
use Rattle.std.proofs.Math.Nat.{pow-le-pow_right}
use Rattle.pram_words.proofs.Halvings.{exponents, power_unique}
use Rattle.command_data.specs.Manner.{IsGrain}

-- the exponent of a power up to 64
pub small : (size exponent : ℕ) → size ≤ 64 → 2 ^ exponent ≤ size → exponent ≤ 6
small size exponent most low =
    let less : exponent < 7 = exponents exponent 7 (omega arith) in omega arith

-- what is not the power that it begins with is none
pub no_power : (size exponent : ℕ) → size ≤ 64 → 2 ^ exponent ≤ size → size < 2 * 2 ^ exponent →
    size ≢ 1 * 2 ^ exponent % 2 ^ 32 → ¬ IsGrain size
no_power size exponent most low high other grain =
    let same : size ≡ 2 ^ exponent = power_unique size exponent grain.0 low high in
    other (omega arith)

-- each exponent up to six gives a size
pub a_size : (exponent : ℕ) → exponent ≤ 6 → IsGrain (1 * 2 ^ exponent % 2 ^ 32)
a_size exponent most =
    let high : 2 ^ exponent ≤ 64 =
    pow-le-pow_right {n = 2} (omega arith) {i = exponent} {j = 6} (omega arith) in
    ((exponent, omega arith), omega arith)
