use Rattle.std.proofs.Common.{◌≡◌, ◌++◌, ◌-◌}
use Rattle.pardo_text.specs.Thrown.{spread_value, thrown_by}
use Rattle.pardo_text.proofs.thrown.spread_values.Given as goal

-- the values so far and those to come are all values
abbrev pub invariant-loop-place : goal.invariant-loop-place
invariant-loop-place l =
    l.values.items ++ thrown_by (spread_value l.is_sorted l.places l.below) l.place
    (l.places - l.place) l.seed
    ≡ thrown_by (spread_value l.is_sorted l.places l.below) 0 l.places l.fn.seed
