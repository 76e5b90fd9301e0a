use Rattle.std.proofs.Common.{◌≡◌}
use Rattle.pardo_program.specs.Expression.{postfix}
use Rattle.pardo_job.proofs.Putting.{PutSoFar}
use Rattle.pardo_job.proofs.values.put_value.Given as goal

abbrev pub invariant-loop-node : goal.invariant-loop-node
invariant-loop-node l = record {
  nodes : l.node-items ≡ postfix l.expr;
  so_far : PutSoFar l.layout l.at l.node-items l.node-index l.initial.code.items l.code.items
      l.stack;
}
