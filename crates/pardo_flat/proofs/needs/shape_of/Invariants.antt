use Rattle.std.proofs.Common.{◌≡◌}
use Rattle.pardo_program.specs.Expression.{postfix}
use Rattle.pardo_flat.specs.Inner.Splits.{shapes_of}
use Rattle.pardo_program.proofs.Nodes.{SoFar}
use Rattle.pardo_flat.proofs.needs.shape_of.Given as goal

abbrev pub invariant-loop-node : goal.invariant-loop-node
invariant-loop-node l = record {
  nodes : l.node-items ≡ postfix l.expr;
  so_far : SoFar (λ trees. l.shapes.items ≡ shapes_of trees) l.node-items l.node-index;
}
