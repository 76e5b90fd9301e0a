use Rattle.std.proofs.Common.{ap, ◌∙◌, arith}
use Rattle.std.specs.Int.{from_bool}
use Rattle.pram_words.proofs.Ways.{root_on_way, next_on_way, end_on_way, way_leaf}
use Rattle.pram_words.proofs.layout.Layout.leaf_of_turns.Goals as goal

pub loop-node-init : goal.loop-node-init
loop-node-init c = (omega arith, root_on_way _ _)

pub loop-node-preserved : goal.loop-node-preserved
loop-node-preserved c = (
  omega arith,
  next_on_way _ _ _ _ c.leaves-leaves.ensures.limits c.loop-node.invariant.1
      (omega arith) (c.from.ensures ∙ ap from_bool c.goes_right.ensures.value),
)

pub returns-clause-value : goal.returns-clause-value
returns-clause-value c =
    end_on_way _ _ _ c.leaves-leaves.ensures.limits c.loop-node.invariant.1 (omega arith)

pub returns-clause-leaf : goal.returns-clause-leaf
returns-clause-leaf c = rw (returns-clause-value c) (way_leaf _ _ c.leaves-leaves.ensures.limits)
