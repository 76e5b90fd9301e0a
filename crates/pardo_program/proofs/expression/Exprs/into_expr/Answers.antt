use Rattle.std.proofs.Common.{◌∙◌}
use Rattle.pardo_program.proofs.Postfix.{nodes_of_all, only_one}
use Rattle.pardo_program.proofs.expression.Exprs.into_expr.Goals as goal

pub invariant_of-result : goal.invariant_of-result
invariant_of-result c = only_one c.args.self _
    (c.shrink_to_fit.ensures.items ∙ nodes_of_all _ _ c.self.invariant c.self.view_is) c.requires
