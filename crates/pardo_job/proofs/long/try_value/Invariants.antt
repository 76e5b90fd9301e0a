use Rattle.std.proofs.Common.{◌≡◌, List, []}
use Rattle.pram_job.specs.declared.instr.Instr.{Instr}
use Rattle.pardo_program.specs.Expression.{postfix}
use Rattle.pardo_job.proofs.Putting.{PutSoFar}
use Rattle.pardo_job.proofs.long.try_value.Given as goal

abbrev pub invariant-loop-node : goal.invariant-loop-node
invariant-loop-node l = record {
  nodes : l.node-items ≡ postfix l.expr;
  made : List Instr;
  so_far : PutSoFar l.layout l.at l.node-items l.node-index [] made l.stack;
}
