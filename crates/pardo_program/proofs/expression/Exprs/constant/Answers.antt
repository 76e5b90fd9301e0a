use Rattle.std.proofs.Common.{◌∙◌}
use Rattle.pardo_program.proofs.Postfix.{nodes_of_all, top_constant}
use Rattle.pardo_program.proofs.expression.Exprs.constant.Goals as goal

pub returns : goal.returns
returns c = top_constant c.args.self.now c.as_slice.result.now _
    (c.as_slice.ensures.value ∙ nodes_of_all _ _ c.self.invariant c.self.view_is)
    c.last_number.ensures
