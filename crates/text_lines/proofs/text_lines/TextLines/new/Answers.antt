use Rattle.std.proofs.Common.{◌<◌, ◌^◌, length, arith, rules}
use Rattle.text_lines.proofs.Splitting.{lines_few}
use Rattle.text_lines.proofs.text_lines.TextLines.new.Goals as goal

pub invariant_of-result : goal.invariant_of-result
invariant_of-result c =
    let bound : length c.args.text.now < 2 ^ 63 = search rules in
    record { countable = omega (arith, lines_few c.args.text.now, bound) }
