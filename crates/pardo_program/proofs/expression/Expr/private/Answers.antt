use Rattle.pardo_program.specs.Expression.{private}
use Rattle.pardo_program.proofs.expression.Expr.private.Goals as goal

pub invariant_of-result : goal.invariant_of-result
invariant_of-result c = (private c.args.variable, c.in_ok-from_slice.ensures.items)
