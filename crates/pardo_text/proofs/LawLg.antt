-- `lg` gives the least k with 2^k at least the number.
use Rattle.std.proofs.Common.{◌≡◌, ℕ, suc, ◌-◌, ◌*◌, ◌^◌, ◌<◌, ◌≤◌, arith, refl, Bool, true, false}
use Rattle.std.proofs.Common.{nat_lt}
use Rattle.std.specs.Int.{w32, leading_zeros}
use Rattle.std.proofs.lemmas.Nat.{leading_length, pow_pos}
use Rattle.std.proofs.lemmas.Bool.Decides.{nat_tests}
use Rattle.std.proofs.Math.Nat.{pow-suc}
use Rattle.std.proofs.Math.Pow.{pow_mono}
use Rattle.pardo_text.specs.Expressions.{log_of}
use Rattle.pardo_text.specs.Laws.{LgIsLeast}

-- powers are in the order of their exponents
least : (m k : ℕ) (test : Bool) → nat_lt k m ≡ test → 2 ^ m < 2 ^ suc k → m ≤ k
least m k false e lt = let few : m ≤ k = grind (arith, nat_tests) in few
least m k true e lt =
    let more : k < m = grind (arith, nat_tests) in
    let up : 2 ^ suc k ≤ 2 ^ m = pow_mono more in absurd (omega arith)

pub lg_is_least : LgIsLeast
unfolding log_of
lg_is_least value fits =
    let some : value - 1 < 2 ^ 32 = omega arith in
    let bits = leading_length 32 (value - 1) some in
    let log : 32 - leading_zeros w32 (value - 1) ≡ bits.0 = omega (arith, bits.1) in
    let enough : value ≤ 2 ^ bits.0 = omega (arith, bits.2) in
    rw log (
      enough,
      λ k few.
          let some : 0 < 2 ^ k = pow_pos k in
          let double : 2 ^ suc k ≡ 2 ^ k * 2 = pow-suc 2 k in
          least bits.0 k (nat_lt k bits.0) refl (omega (arith, bits.3)),
    )
