use Rattle.std.proofs.Common.{◌≡◌}
use Rattle.stop_plan.specs.Random.{random_rows, picked_rows, with_living}
use Rattle.stop_plan.proofs.random.random_rows.Given as goal

-- the rows so far, and those to come, are all rows
abbrev pub invariant-loop-left : goal.invariant-loop-left
invariant-loop-left l = with_living l.rows.items
    (picked_rows l.workers l.survivor l.left l.numbers.number) ≡ random_rows l.workers l.seed

abbrev pub decreases-loop-left : goal.decreases-loop-left
decreases-loop-left l = l.left
