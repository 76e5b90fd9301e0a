use Rattle.std.proofs.Common.{◌∙◌, ◌++◌, ◌∷◌, [], ap, sym}
use Rattle.pardo_program.specs.declared.expression.Node.{Node}
use Rattle.pardo_program.specs.Expression.{first_of}
use Rattle.pardo_program.proofs.Postfix.{nodes_of_all}
use Rattle.pardo_program.proofs.Tests.{below_by, below_node, below_applied}
use Rattle.pardo_program.proofs.expression.Exprs.is_below.Goals as goal

pub returns-in-Number : goal.returns-in-Number
returns-in-Number c =
    sym (ap (below_by c.args.known.now c.args.bound (first_of c.args.self.now)) c.in-Number.is)
    ∙ below_node c.args.known.now c.args.bound c.args.self.now c.as_slice.result.now
    c.in-Some.before.now c.in-Some.last.now
    (c.as_slice.ensures.value ∙ nodes_of_all _ _ c.self.invariant c.self.view_is) c.requires
    c.in-Some.ensures.cases.0

pub returns-in-Own : goal.returns-in-Own
returns-in-Own c =
    c.is_own_below.ensures ∙ sym (ap (below_by c.args.known.now c.args.bound (first_of c.args.self.now)) c.in-Own.is)
    ∙ below_node c.args.known.now c.args.bound c.args.self.now c.as_slice.result.now
    c.in-Some.before.now c.in-Some.last.now
    (c.as_slice.ensures.value ∙ nodes_of_all _ _ c.self.invariant c.self.view_is) c.requires
    c.in-Some.ensures.cases.0

pub returns-in-Loop : goal.returns-in-Loop
returns-in-Loop c =
    c.is_loop_below.ensures ∙ sym (ap (below_by c.args.known.now c.args.bound (first_of c.args.self.now)) c.in-Loop.is)
    ∙ below_node c.args.known.now c.args.bound c.args.self.now c.as_slice.result.now
    c.in-Some.before.now c.in-Some.last.now
    (c.as_slice.ensures.value ∙ nodes_of_all _ _ c.self.invariant c.self.view_is) c.requires
    c.in-Some.ensures.cases.0

pub returns-in-Private : goal.returns-in-Private
returns-in-Private c =
    c.is_private_below.ensures ∙ sym (ap (below_by c.args.known.now c.args.bound (first_of c.args.self.now)) c.in-Private.is)
    ∙ below_node c.args.known.now c.args.bound c.args.self.now c.as_slice.result.now
    c.in-Some.before.now c.in-Some.last.now
    (c.as_slice.ensures.value ∙ nodes_of_all _ _ c.self.invariant c.self.view_is) c.requires
    c.in-Some.ensures.cases.0

pub returns-in-Place : goal.returns-in-Place
returns-in-Place c =
    sym (ap (below_by c.args.known.now c.args.bound (first_of c.args.self.now)) c.in-Place.is)
    ∙ below_node c.args.known.now c.args.bound c.args.self.now c.as_slice.result.now
    c.in-Some.before.now c.in-Some.last.now
    (c.as_slice.ensures.value ∙ nodes_of_all _ _ c.self.invariant c.self.view_is) c.requires
    c.in-Some.ensures.cases.0

pub returns-in-Apply : goal.returns-in-Apply
returns-in-Apply c =
    below_applied c.args.known.now c.args.bound c.args.self.now c.as_slice.result.now
    c.in-Some.before.now c.in-Apply.op c.is_rest_below.result
    (c.as_slice.ensures.value ∙ nodes_of_all _ _ c.self.invariant c.self.view_is) c.requires
    (c.in-Some.ensures.cases.0
    ∙ ap (λ (last : Node). c.in-Some.before.now ++ last ∷ []) c.in-Apply.is)
    c.is_rest_below.ensures
