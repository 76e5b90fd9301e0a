use Rattle.std.proofs.Common.{◌∷◌, []}
use Rattle.pardo_program.specs.Expression.{tree_of}
use Rattle.pardo_program.proofs.Postfix.{nodes_of_all, leaf_nodes, trees_from_nodes}
use Rattle.pardo_program.proofs.expression.Exprs.leaf.Goals as goal

pub invariant_of-self-2 : goal.invariant_of-self-2
invariant_of-self-2 c = (
  tree_of (c.args.node ∷ []) ∷ c.args.self.now,
  leaf_nodes c.args.self.now c.self.inside.nodes.items _ c.args.node c.requires
      (nodes_of_all _ _ c.self.invariant c.self.view_is) c.in_ok-push.ensures.items,
)

pub returns : goal.returns
returns c = trees_from_nodes _ _
    (leaf_nodes c.args.self.now c.self.inside.nodes.items _ c.args.node c.requires
    (nodes_of_all _ _ c.self.invariant c.self.view_is) c.in_ok-push.ensures.items)
