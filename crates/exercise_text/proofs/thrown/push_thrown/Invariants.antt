use Rattle.std.proofs.Common.{◌≡◌, ◌++◌, ◌-◌}
use Rattle.exercise_text.specs.Sets.{thrown_text}
use Rattle.exercise_text.proofs.thrown.push_thrown.Given as goal

-- the values so far and those to come are all values
abbrev pub invariant-loop-fresh : goal.invariant-loop-fresh
invariant-loop-fresh l = l.text.items ++ thrown_text (l.places - l.fresh) l.seed l.below
    ≡ l.fn.text.items ++ thrown_text l.places l.fn.seed l.below
