use Rattle.std.proofs.Common.{◌≡◌}
use Rattle.pardo_text.specs.Inner.Columns.{below}
use Rattle.pardo_text.proofs.column.own_numbers.Given as goal

abbrev pub invariant-loop-i : goal.invariant-loop-i
invariant-loop-i l = l.numbers.items ≡ below l.i
