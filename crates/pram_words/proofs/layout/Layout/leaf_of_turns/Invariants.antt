use Rattle.std.proofs.Common.{◌-◌, ◌≤◌}
use Rattle.pram_words.proofs.Ways.{OnWay}
use Rattle.pram_words.proofs.layout.Layout.leaf_of_turns.Given as goal

abbrev pub invariant-loop-node : goal.invariant-loop-node
invariant-loop-node l = (1 ≤ l.node) × OnWay l.self l.w l.node

abbrev pub decreases-loop-node : goal.decreases-loop-node
decreases-loop-node l = l.leaves - l.node
