use Rattle.std.proofs.Common.{◌∙◌}
use Rattle.pardo_program.proofs.Postfix.{nodes_of, constant_of-long}
use Rattle.pardo_program.proofs.expression.Expr.constant.Goals as goal

pub returns-in_default-3 : goal.returns-in_default-3
returns-in_default-3 c =
    constant_of-long c.as_slice.result.now _
    (c.as_slice.ensures.value ∙ nodes_of _ _ c.self.invariant c.self.view_is)
    c.in_default.len_at_least
