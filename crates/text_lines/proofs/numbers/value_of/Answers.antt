use Rattle.std.proofs.Common.{rules, ◌-◌, ◌^◌}
use Rattle.text_lines.proofs.WordsNumbers.{digits_value_saturated}
use Rattle.text_lines.proofs.numbers.value_of.Goals as goal

pub loop-digit-preserved : goal.loop-digit-preserved
loop-digit-preserved c = digits_value_saturated c.args.digits.now c.loop-digit.digit-index
    c.loop-digit.value c.saturating_mul.result c.saturating_add-value.result
    (2 ^ 64 - 1) c.requires c.loop-digit-test.true c.loop-digit.invariant c.saturating_mul.ensures
    (search (rules, c.from.ensures))
