use Rattle.std.proofs.Common.{◌∷◌, drop}
use Rattle.pardo_program.specs.Expression.{apply, first_of}
use Rattle.pardo_program.proofs.Postfix.{nodes_of_all, apply_nodes, trees_from_nodes}
use Rattle.pardo_program.proofs.expression.Exprs.join.Goals as goal

pub invariant_of-self-2 : goal.invariant_of-self-2
invariant_of-self-2 c = (
  apply c.args.op (first_of (drop 1 c.args.self.now)) (first_of c.args.self.now)
      ∷ drop 2 c.args.self.now,
  apply_nodes c.args.self.now c.self.inside.nodes.items _ c.args.op c.requires
      (nodes_of_all _ _ c.self.invariant c.self.view_is) c.in_ok-push.ensures.items,
)

pub returns : goal.returns
returns c = trees_from_nodes _ _
    (apply_nodes c.args.self.now c.self.inside.nodes.items _ c.args.op c.requires
    (nodes_of_all _ _ c.self.invariant c.self.view_is) c.in_ok-push.ensures.items)
