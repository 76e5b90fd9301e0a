use Rattle.std.proofs.Common.{◌≡◌, ◌∙◌, ◌++◌, ◌∷◌, [], List, ap, append_assoc}
use Rattle.pardo_program.specs.declared.expression.Node.{Node}
use Rattle.pardo_program.specs.declared.expression.Node.TheVariants.{Apply}
use Rattle.pardo_program.specs.declared.operation.Op.{Op}
use Rattle.pardo_program.specs.Expression.{Tree, apply, postfix, tree_of, tree_of-postfix}
use Rattle.pardo_program.proofs.Postfix.{nodes_of}
use Rattle.pardo_program.proofs.expression.Expr.apply.Goals as goal

joined : (op : Op) (first second : Tree) (nodes more between all : List Node) →
    nodes ≡ postfix first → more ≡ postfix second → between ≡ nodes ++ more →
    all ≡ between ++ Apply op ∷ [] → all ≡ postfix (apply op first second)
joined op first second nodes more between all is is_too e f =
    f ∙ ap (λ (l : List Node). l ++ Apply op ∷ []) (e ∙ ap (λ (l : List Node). l ++ more) is
    ∙ ap (λ (l : List Node). postfix first ++ l) is_too)
    ∙ append_assoc (postfix first) (postfix second) (Apply op ∷ [])

pub invariant_of-result : goal.invariant_of-result
invariant_of-result c = (
  apply c.args.op c.args.self c.args.second.now,
  joined c.args.op c.args.self c.args.second.now _ _ _ _
      (nodes_of _ _ c.self.invariant c.self.view_is) c.nodes.ensures
      c.in_ok-extend_from_slice.ensures.items c.in_ok-push.ensures.items,
)

pub returns : goal.returns
returns c =
    let e : c.push.new.self.items ≡ postfix (apply c.args.op c.args.self c.args.second.now) =
    joined c.args.op c.args.self c.args.second.now _ _ _ _
    (nodes_of _ _ c.self.invariant c.self.view_is) c.nodes.ensures
    c.in_ok-extend_from_slice.ensures.items c.in_ok-push.ensures.items in
    ap (λ (l : List Node). tree_of l) e
    ∙ tree_of-postfix (apply c.args.op c.args.self c.args.second.now)
