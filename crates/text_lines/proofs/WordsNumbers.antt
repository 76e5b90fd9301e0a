-- Numbers that grow digit by digit, and stay at a greatest one.
use Rattle.std.proofs.Common.{◌≡◌, ℕ, ◌+◌, ◌-◌, ◌*◌, ◌<◌, true, min}
use Rattle.std.proofs.Common.{List, take, length, get_or, arith}
use Rattle.std.specs.Char.{is_ascii_digit, digit_value}
use Rattle.std.specs.List.{AllPass}
use Rattle.std.specs.Str.Parse.{digits_value}
use Rattle.std.proofs.lemmas.Int.Digits.{digits_value_more}

digit_value_of_digit : (c : ℕ) → is_ascii_digit c ≡ true → digit_value c ≡ c - 48
digit_value_of_digit c e = grind arith

saturated : (most whole value product sum d : ℕ) → value ≡ min whole most →
    product ≡ min (value * 10) most → sum ≡ min (product + d) most → sum ≡ min (whole * 10 + d) most
saturated most whole value product sum d e f g = omega arith

-- one more digit
pub digits_value_saturated : (digits : List ℕ) (i value product sum most : ℕ) →
    AllPass is_ascii_digit digits →
    i < length digits → value ≡ min (digits_value 10 (take i digits)) most →
    product ≡ min (value * 10) most → sum ≡ min (product + (get_or digits i 0 - 48)) most →
    sum ≡ min (digits_value 10 (take (i + 1) digits)) most
digits_value_saturated digits i value product sum most all lt e f g =
    let digit : digit_value (get_or digits i 0) ≡ get_or digits i 0 - 48 =
    digit_value_of_digit (get_or digits i 0) (all i 0 lt) in
    let more : digits_value 10 (take (i + 1) digits) ≡ digits_value 10 (take i digits)
    * 10 + digit_value (get_or digits i 0) = digits_value_more 10 digits i lt in
    rw (more, digit) (saturated most (digits_value 10 (take i digits)) value product sum
    (get_or digits i 0 - 48) e f g)
