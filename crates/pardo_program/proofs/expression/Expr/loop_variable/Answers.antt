use Rattle.pardo_program.specs.Expression.{loop}
use Rattle.pardo_program.proofs.expression.Expr.loop_variable.Goals as goal

pub invariant_of-result : goal.invariant_of-result
invariant_of-result c = (loop c.args.nest, c.in_ok-from_slice.ensures.items)
