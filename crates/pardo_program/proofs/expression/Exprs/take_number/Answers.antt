use Rattle.std.proofs.Common.{◌≡◌, ◌∙◌, ◌∷◌, sym, ap, rules, None}
use Rattle.pardo_program.specs.Expression.{number, first_of}
use Rattle.pardo_program.specs.Folding.{constant_of}
use Rattle.pardo_program.proofs.Postfix.{nodes_of_all, trees_from_nodes, top_constant, left_below}
use Rattle.pardo_program.proofs.Postfix.{some_nodes}
use Rattle.pardo_program.proofs.expression.Exprs.take_number.Goals as goal

pub returns-in_default : goal.returns-in_default
returns-in_default c =
    let none : constant_of (first_of c.args.self.now) ≡ None =
    sym (top_constant c.args.self.now c.as_slice.result.now None
    (c.as_slice.ensures.value ∙ nodes_of_all _ _ c.self.invariant c.self.view_is)
    c.in_default.ensures) in
    (search rules, none)

pub invariant_of-self : goal.invariant_of-self
invariant_of-self c =
    let is = c.in-Some.ensures in
    let below = left_below c.args.self.now c.as_slice.result.now _ c.in-Some.value c.pop.result
    (c.as_slice.ensures.value ∙ nodes_of_all _ _ c.self.invariant c.self.view_is) is
    (c.as_slice.ensures.value ∙ c.pop.ensures.items)
    (c.pop.ensures.variant.1 (some_nodes _ _ _ _ is.1 c.as_slice.ensures.len)) in
    (below.0, below.2)

pub returns : goal.returns
returns c =
    let is = c.in-Some.ensures in
    let below = left_below c.args.self.now c.as_slice.result.now _ c.in-Some.value c.pop.result
    (c.as_slice.ensures.value ∙ nodes_of_all _ _ c.self.invariant c.self.view_is) is
    (c.as_slice.ensures.value ∙ c.pop.ensures.items)
    (c.pop.ensures.variant.1 (some_nodes _ _ _ _ is.1 c.as_slice.ensures.len)) in
    below.1 ∙ ap (λ all. number c.in-Some.value ∷ all) (sym (trees_from_nodes _ _ below.2))
