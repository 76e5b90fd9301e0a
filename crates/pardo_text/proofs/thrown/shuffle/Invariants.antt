use Rattle.std.proofs.Common.{◌≡◌, ◌-◌, ◌≤◌, length}
use Rattle.pardo_text.specs.Thrown.{shuffled}
use Rattle.pardo_text.proofs.thrown.shuffle.Given as goal

-- the items that are left are to be shuffled
abbrev pub invariant-loop-left : goal.invariant-loop-left
invariant-loop-left l =
    (shuffled (l.left - 1) l.seed l.items
    ≡ shuffled (length l.fn.items - 1) l.fn.seed l.fn.items) × (l.left ≤ length l.items)
    × (length l.items ≡ length l.fn.items)

abbrev pub decreases-loop-left : goal.decreases-loop-left
decreases-loop-left l = l.left - 1
