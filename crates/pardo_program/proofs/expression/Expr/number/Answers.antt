use Rattle.pardo_program.specs.Expression.{number}
use Rattle.pardo_program.proofs.expression.Expr.number.Goals as goal

pub invariant_of-result : goal.invariant_of-result
invariant_of-result c = (number c.args.value, c.in_ok-from_slice.ensures.items)
