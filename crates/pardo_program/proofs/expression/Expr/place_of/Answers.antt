use Rattle.std.proofs.Common.{◌≡◌, ◌∙◌, ◌++◌, ◌∷◌, [], List, ap}
use Rattle.pardo_program.specs.declared.expression.Node.{Node}
use Rattle.pardo_program.specs.declared.expression.Node.TheVariants.{Place}
use Rattle.pardo_program.specs.Expression.{place, postfix, tree_of, tree_of-postfix}
use Rattle.pardo_program.proofs.Postfix.{nodes_of}
use Rattle.pardo_program.proofs.expression.Expr.place_of.Goals as goal

pub invariant_of-result : goal.invariant_of-result
invariant_of-result c = (
  place c.args.array c.args.self,
  c.in_ok-push.ensures.items ∙ ap (λ (l : List Node). l ++ Place c.args.array ∷ [])
      (nodes_of _ _ c.self.invariant c.self.view_is),
)

pub returns : goal.returns
returns c =
    let e : c.push.new.self.items ≡ postfix (place c.args.array c.args.self) =
    c.in_ok-push.ensures.items ∙ ap (λ (l : List Node). l ++ Place c.args.array ∷ [])
    (nodes_of _ _ c.self.invariant c.self.view_is) in
    ap (λ (l : List Node). tree_of l) e ∙ tree_of-postfix (place c.args.array c.args.self)
