use Rattle.std.proofs.Common.{◌≡◌}
use Rattle.pardo_program.specs.Expression.{postfix}
use Rattle.pardo_flat.specs.Inner.Splits.{AreSplit}
use Rattle.pardo_program.proofs.Nodes.{SoFar}
use Rattle.pardo_flat.proofs.splitter.Splitter.split.Given as goal

abbrev pub invariant-loop-node : goal.invariant-loop-node
invariant-loop-node l = record {
  common : l.self.common ≡ l.initial.self.common;
  base : l.self.base ≡ l.initial.self.base;
  nodes : l.node-items ≡ postfix l.expr;
  so_far : SoFar (λ trees. AreSplit l.initial.self.common l.initial.self.base l.initial.self.pieces.items trees
      l.self.pieces.items l.self.parts.items) l.node-items l.node-index;
}
