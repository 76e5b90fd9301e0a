use Rattle.std.proofs.Common.{◌∙◌}
use Rattle.pardo_program.proofs.Postfix.{nodes_of}
use Rattle.pardo_program.proofs.expression.Expr.nodes.Goals as goal

pub returns : goal.returns
returns c = c.as_slice.ensures.value ∙ nodes_of _ _ c.self.invariant c.self.view_is
