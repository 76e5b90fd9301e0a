-- When a field spells a number below a bound.
use Rattle.std.proofs.Common.{◌≡◌, ◌∙◌, ℕ, ◌+◌, ◌-◌, ◌*◌, ◌<◌, ◌≤◌, ◌^◌, true, false}
use Rattle.std.proofs.Common.{List, [], ◌∷◌, ◌++◌, Some, None, length, get_or, take}
use Rattle.std.proofs.Common.{refl, sym, ap, arith, zero, suc, cond, inl, inr}
use Rattle.std.specs.Prelude.{◌&&◌, nat_lt}
use Rattle.std.specs.Char.{digit_value, is_ascii_digit}
use Rattle.std.specs.Str.{all_ascii_digits}
use Rattle.std.specs.Str.Parse.{digits_value}
use Rattle.std.proofs.lemmas.Bool.{cases_Bool}
use Rattle.std.proofs.lemmas.Bool.Decides.{nat_tests}
use Rattle.std.proofs.lemmas.Int.Digits.{digits_value_more}
use Rattle.std.proofs.lemmas.List.{take_all, take_more}
use Rattle.std.proofs.lemmas.Str.Parse.{digits_value-take-le}
use Rattle.stop_plan.specs.Records.{is_number_field, number_below}

digit_is : (c : ℕ) → is_ascii_digit c ≡ true → digit_value c ≡ c - 48
digit_is c h = grind (arith, nat_tests)

-- a list with a byte that is no digit is not all digits
not_digits : (bs : List ℕ) (i : ℕ) → i < length bs →
    is_ascii_digit (get_or bs i 0) ≡ false → all_ascii_digits bs ≡ false
not_digits [] i within other = absurd (omega arith)
not_digits (b ∷ bs) zero within other = rw other refl
not_digits (b ∷ bs) (suc i) within other = rw (not_digits bs i (omega arith) other)
    (elim (is_ascii_digit b) as (λ v. (v && false) ≡ false) [ true ↦ refl | false ↦ refl ])

digits_push : (bs : List ℕ) (c : ℕ) → all_ascii_digits bs ≡ true → is_ascii_digit c ≡ true →
    all_ascii_digits (bs ++ (c ∷ [])) ≡ true
digits_push [] c all one = rw one refl
digits_push (b ∷ bs) c all one = elim (cases_Bool (is_ascii_digit b)) [
  | inl digit ↦ rw digit (digits_push bs c (rw digit at all) one)
  | inr other ↦ cc (rw other at all)
]

pub none_by_byte : (bound : ℕ) (bs : List ℕ) (i : ℕ) → i < length bs →
    is_ascii_digit (get_or bs i 0) ≡ false → None ≡ number_below bound bs
unfolding number_below
none_by_byte bound [] i within other = refl
none_by_byte bound (b ∷ bs) i within other = rw (not_digits (b ∷ bs) i within other) refl

pub none_by_size : (bound : ℕ) (bs : List ℕ) (i : ℕ) →
    bound ≤ digits_value 10 (take i bs) → None ≡ number_below bound bs
unfolding number_below
none_by_size bound bs i large =
    let more = digits_value-take-le 10 bs i (omega arith) in
    let whole : nat_lt (digits_value 10 bs) bound ≡ false = grind (arith, nat_tests) in
    rw whole (elim (is_number_field bs) as (λ v.
    None ≡ cond (v && false) (Some (digits_value 10 bs)) None) [ true ↦ refl | false ↦ refl ])

-- the digits up to an index, and the digit there
value_more : (bs : List ℕ) (i value : ℕ) →
    i < length bs → is_ascii_digit (get_or bs i 0) ≡ true → value ≡ digits_value 10 (take i bs) →
    digits_value 10 (take (i + 1) bs) ≡ value * 10 + (get_or bs i 0 - 48)
value_more bs i value within digit so_far =
    omega (arith, digits_value_more 10 bs i within, digit_is (get_or bs i 0) digit, so_far)

pub none_by_sum : (bound : ℕ) (bs : List ℕ) (i value : ℕ) → i < length bs →
    is_ascii_digit (get_or bs i 0) ≡ true → value ≡ digits_value 10 (take i bs) → bound ≤ 2 ^ 32 →
    (value * 10 + (get_or bs i 0 - 48) < 2 ^ 32 → ⊥) → None ≡ number_below bound bs
none_by_sum bound bs i value within digit so_far small large =
    none_by_size bound bs (i + 1) (omega (arith, value_more bs i value within digit so_far))

pub record Spelled (bs : List ℕ) (i value : ℕ) : Type 0 where
  pub digits : all_ascii_digits (take i bs) ≡ true
  pub value_is : value ≡ digits_value 10 (take i bs)

pub spelled_more : (bs : List ℕ) (i value next : ℕ) → i < length bs →
    is_ascii_digit (get_or bs i 0) ≡ true → Spelled bs i value →
    next ≡ value * 10 + (get_or bs i 0 - 48) → Spelled bs (i + 1) next
spelled_more bs i value next within digit so_far e = record {
  digits =
      rw (take_more bs i 0 within) (digits_push (take i bs) (get_or bs i 0) so_far.digits digit);
  value_is = e ∙ sym (value_more bs i value within digit so_far.value_is);
}

pub some_value : (bound : ℕ) (bs : List ℕ) (i value : ℕ) → 0 < length bs → length bs ≤ i →
    Spelled bs i value → value < bound → Some value ≡ number_below bound bs
unfolding number_below
some_value bound [] i value filled past whole small = absurd (omega arith)
some_value bound (b ∷ bs) i value filled past whole small =
    let all : all_ascii_digits (b ∷ bs) ≡ true =
    ap all_ascii_digits (sym (take_all i (b ∷ bs) past)) ∙ whole.digits in
    let is : value ≡ digits_value 10 (b ∷ bs) =
    whole.value_is ∙ ap (digits_value 10) (take_all i (b ∷ bs) past) in
    let test : nat_lt (digits_value 10 (b ∷ bs)) bound ≡ true = grind (arith, nat_tests) in
    rw (all, test) (ap Some is)

pub none_of_empty : (bound : ℕ) (bs : List ℕ) → length bs ≡ 0 → None ≡ number_below bound bs
unfolding number_below
none_of_empty bound [] empty = refl
none_of_empty bound (b ∷ bs) empty = cc empty
