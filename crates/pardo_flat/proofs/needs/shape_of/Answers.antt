use Rattle.std.proofs.Common.{◌≡◌, [], List, ap, arith, length, sym, ◌∙◌}
use Rattle.std.proofs.lemmas.List.{same_from_push}
use Rattle.pardo_flat.specs.Flat.{ShapeData, shape_of}
use Rattle.pardo_flat.specs.Inner.Splits.{shapes_of}
use Rattle.pardo_program.proofs.Nodes.{all_so_far, none_so_far}
use Rattle.pardo_flat.proofs.needs.shape_of.Goals as goal

pub loop-node-init : goal.loop-node-init
loop-node-init c = record {
  nodes = c.nodes-node-items.ensures;
  so_far = none_so_far (λ trees. c.args.shapes.now.items ≡ shapes_of trees) c.args.expr.now _
      c.nodes-node-items.ensures c.requires;
}

pub pop_shape-requires : goal.pop_shape-requires
pop_shape-requires c =
    let are = all_so_far (λ trees. c.loop-node.shapes.items ≡ shapes_of trees) c.args.expr.now _ _
    c.loop-node.invariant.nodes c.loop-node-test.false c.loop-node.invariant.so_far in
    omega (arith, c.loop-node.shapes.ok, ap (λ (l : List ShapeData). length l) are)

pub returns-clause-none : goal.returns-clause-none
returns-clause-none c =
    let are = all_so_far (λ trees. c.loop-node.shapes.items ≡ shapes_of trees) c.args.expr.now _ _
    c.loop-node.invariant.nodes c.loop-node-test.false c.loop-node.invariant.so_far in
    (same_from_push c.pop_shape.new.shapes.items [] c.pop_shape.result (shape_of c.args.expr.now)
    (sym c.pop_shape.ensures ∙ are)).0

pub returns-clause-shape : goal.returns-clause-shape
returns-clause-shape c =
    let are = all_so_far (λ trees. c.loop-node.shapes.items ≡ shapes_of trees) c.args.expr.now _ _
    c.loop-node.invariant.nodes c.loop-node-test.false c.loop-node.invariant.so_far in
    (same_from_push c.pop_shape.new.shapes.items [] c.pop_shape.result (shape_of c.args.expr.now)
    (sym c.pop_shape.ensures ∙ are)).1
