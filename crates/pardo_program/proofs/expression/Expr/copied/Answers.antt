use Rattle.std.proofs.Common.{◌∙◌, List, ap}
use Rattle.pardo_program.specs.declared.expression.Node.{Node}
use Rattle.pardo_program.specs.Expression.{tree_of, tree_of-postfix}
use Rattle.pardo_program.proofs.expression.Expr.copied.Goals as goal

pub invariant_of-result : goal.invariant_of-result
invariant_of-result c = (c.args.self.now, c.in_ok-from_slice.ensures.items ∙ c.nodes.ensures)

pub returns : goal.returns
returns c =
    ap (λ (l : List Node). tree_of l) (c.in_ok-from_slice.ensures.items ∙ c.nodes.ensures)
    ∙ tree_of-postfix c.args.self.now
