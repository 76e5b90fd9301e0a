-- Stamps are compared without taking them out of their words.
use Rattle.std.proofs.Common.{◌≡◌, ℕ, ◌+◌, ◌-◌, ◌/◌, ◌%◌, ◌^◌, nat_le, inl, inr, sym, ◌∙◌, arith}
use Rattle.std.specs.Int.Bits.{bit_or, or_add_and}
use Rattle.std.proofs.lemmas.Nat.{and_mask}
use Rattle.std.proofs.lemmas.Bool.{cases_lt, le-leb, lt-leb}

-- with all bits of its payload set, a word is the greatest of its stamp
pub or_payload : (b : ℕ) → bit_or b (2 ^ 32 - 1) + b % 2 ^ 32 ≡ b + (2 ^ 32 - 1)
or_payload b = rw (sym (and_mask b 32)) (or_add_and b (2 ^ 32 - 1))

pub no_later : (a b : ℕ) → nat_le a (bit_or b (2 ^ 32 - 1)) ≡ nat_le (a / 2 ^ 32) (b / 2 ^ 32)
no_later a b =
    let greatest = or_payload b in
    elim (cases_lt (b / 2 ^ 32) (a / 2 ^ 32)) [
      | inl later ↦ lt-leb _ _ (omega (arith, greatest)) ∙ sym (lt-leb _ _ later)
      | inr not ↦ le-leb _ _ (omega (arith, greatest)) ∙ sym (le-leb _ _ (omega arith))
    ]
