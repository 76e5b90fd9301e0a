use Rattle.std.proofs.Common.{refl, arith, sym, ◌∙◌}
use Rattle.std.proofs.lemmas.Bool.Decides.{nat_tests}
use Rattle.stop_plan.proofs.Numbers.{none_by_byte, none_by_size, none_by_sum}
use Rattle.stop_plan.proofs.Numbers.{none_of_empty, some_value, spelled_more}
use Rattle.stop_plan.proofs.number.number_below.Goals as goal

pub returns-then-is_empty : goal.returns-then-is_empty
returns-then-is_empty c = none_of_empty _ _ (grind (arith, nat_tests))

pub loop-digit-init : goal.loop-digit-init
loop-digit-init c = record {
  filled = grind (arith, nat_tests);
  fits = omega arith;
  so_far = record { digits = refl; value_is = refl };
}

pub returns-then-not-is_ascii_digit : goal.returns-then-not-is_ascii_digit
returns-then-not-is_ascii_digit c =
    none_by_byte _ _ c.loop-digit.digit-index c.loop-digit-test.true
    (sym c.is_ascii_digit.ensures.value ∙ c.if-not-is_ascii_digit.true)

pub returns-in_err-checked_mul : goal.returns-in_err-checked_mul
returns-in_err-checked_mul c =
    let digit = sym c.is_ascii_digit.ensures.value ∙ c.if-not-is_ascii_digit.false in
    rw c.from_residual.ensures
    (none_by_sum _ _ c.loop-digit.digit-index
    _ c.loop-digit-test.true digit c.loop-digit.invariant.so_far.value_is c.requires
    (λ fits. c.in_err-checked_mul.ensures (omega arith)))

pub returns-in_err-value : goal.returns-in_err-value
returns-in_err-value c =
    let digit = sym c.is_ascii_digit.ensures.value ∙ c.if-not-is_ascii_digit.false in
    rw c.from_residual-in_err-value.ensures
    (none_by_sum _ _ c.loop-digit.digit-index
    _ c.loop-digit-test.true digit c.loop-digit.invariant.so_far.value_is c.requires
    (λ fits. c.in_err-value.ensures (omega (arith, c.in_ok-checked_mul.ensures.1, c.from.ensures))))

pub loop-digit-preserved : goal.loop-digit-preserved
loop-digit-preserved c =
    let digit = sym c.is_ascii_digit.ensures.value ∙ c.if-not-is_ascii_digit.false in
    record {
      filled = c.loop-digit.invariant.filled;
      fits = omega (arith, c.in_ok-value.ensures.0);
      so_far = spelled_more _ _ _ _ c.loop-digit-test.true digit c.loop-digit.invariant.so_far
          (omega (arith, c.in_ok-value.ensures.1, c.in_ok-checked_mul.ensures.1, c.from.ensures));
    }

pub returns-then-from-bound : goal.returns-then-from-bound
returns-then-from-bound c =
    let inv = c.loop-digit.invariant in
    some_value _ _ c.loop-digit.digit-index c.loop-digit.value inv.filled c.loop-digit-test.false
    inv.so_far (omega (arith, c.from-2.ensures))

pub returns-else-from-bound : goal.returns-else-from-bound
returns-else-from-bound c =
    none_by_size _ _ c.loop-digit.digit-index
    (omega (arith, c.from-2.ensures, c.loop-digit.invariant.so_far.value_is))
