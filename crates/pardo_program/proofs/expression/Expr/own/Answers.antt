use Rattle.pardo_program.specs.Expression.{own}
use Rattle.pardo_program.proofs.expression.Expr.own.Goals as goal

pub invariant_of-result : goal.invariant_of-result
invariant_of-result c = (own, c.in_ok-from_slice.ensures.items)
