use Rattle.std.proofs.Common.{◌≡◌, map}
use Rattle.pardo_program.specs.Expression.{postfix}
use Rattle.pardo_program.specs.Tests.{without_tests}
use Rattle.pardo_program.proofs.Nodes.{SoFar}
use Rattle.pardo_program.proofs.expression.Expr.leave_tests_out.Given as goal

abbrev pub invariant-loop-node : goal.invariant-loop-node
invariant-loop-node l = record {
  nodes : l.node-items ≡ postfix l.fn.self;
  so_far : SoFar (λ trees. l.exprs ≡ map (without_tests l.known) trees) l.node-items l.node-index;
}
