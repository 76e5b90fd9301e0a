use Rattle.std.proofs.Common.{◌≡◌, ◌++◌, codes, drop}
use Rattle.pardo_text.specs.Settings.{parted}
use Rattle.pardo_text.proofs.exchange.push_values.Given as goal

-- the values so far and those to come are all values
abbrev pub invariant-loop-value : goal.invariant-loop-value
invariant-loop-value l =
    l.set.items ++ parted l.parting (drop l.value-index l.values)
    ≡ l.fn.set.items ++ parted (codes " = ") l.values
