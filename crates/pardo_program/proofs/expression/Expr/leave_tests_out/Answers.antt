use Rattle.std.proofs.Common.{◌≡◌, ◌∙◌, ap, map, sym}
use Rattle.std.specs.List.{list_any}
use Rattle.pardo_program.specs.Inner.Untested.{is_test}
use Rattle.pardo_program.specs.Expression.{first_of}
use Rattle.pardo_program.specs.Tests.{without_tests}
use Rattle.pardo_program.proofs.Nodes.{all_so_far, none_so_far}
use Rattle.pardo_program.proofs.Tests.{none_left_out}
use Rattle.pardo_program.proofs.expression.Expr.leave_tests_out.Goals as goal

pub returns-then-not-has_test : goal.returns-then-not-has_test
returns-then-not-has_test c =
    sym (none_left_out c.args.known.now c.args.self.now
    (sym (c.has_test.ensures ∙ ap (list_any is_test) c.nodes.ensures) ∙ c.if-not-has_test.true))

pub loop-node-init : goal.loop-node-init
loop-node-init c = record {
  nodes = c.nodes-node-items.ensures;
  so_far = none_so_far (λ trees. c.new-exprs.result ≡ map (without_tests c.args.known.now) trees)
      c.args.self.now _ c.nodes-node-items.ensures c.new-exprs.ensures;
}

pub returns : goal.returns
returns c =
    c.drop.view_is ∙ c.into_expr.ensures
    ∙ ap first_of (all_so_far
    (λ trees. c.loop-node.exprs ≡ map (without_tests c.args.known.now) trees) c.args.self.now _ _
    c.loop-node.invariant.nodes c.loop-node-test.false c.loop-node.invariant.so_far)
