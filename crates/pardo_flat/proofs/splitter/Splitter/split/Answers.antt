use Rattle.std.proofs.Common.{arith, refl, ◌∙◌}
use Rattle.pardo_flat.specs.Inner.Splits.{AreSplit}
use Rattle.pardo_program.proofs.Nodes.{all_so_far, none_so_far}
use Rattle.pardo_flat.proofs.Splitters.{only_part, some_part}
use Rattle.pardo_flat.proofs.splitter.Splitter.split.Goals as goal

pub loop-node-init : goal.loop-node-init
loop-node-init c = record {
  common = refl;
  base = refl;
  nodes = c.nodes-node-items.ensures;
  so_far = none_so_far (λ trees. AreSplit c.args.self.now.common c.args.self.now.base c.args.self.now.pieces.items trees
      c.args.self.now.pieces.items c.args.self.now.parts.items) c.args.expr.now _
      c.nodes-node-items.ensures (record { pieces_are = refl; parts_are = c.requires });
}

pub pop-requires : goal.pop-requires
pop-requires c =
    let are = all_so_far (λ trees. AreSplit c.args.self.now.common c.args.self.now.base c.args.self.now.pieces.items trees
    c.loop-node.self.pieces.items c.loop-node.self.parts.items) c.args.expr.now _ _
    c.loop-node.invariant.nodes c.loop-node-test.false c.loop-node.invariant.so_far in
    omega (arith, c.loop-node.self.parts.ok, some_part _ _ _ _ _ _ are)

pub returns-clause-none : goal.returns-clause-none
returns-clause-none c =
    let are = all_so_far (λ trees. AreSplit c.args.self.now.common c.args.self.now.base c.args.self.now.pieces.items trees
    c.loop-node.self.pieces.items c.loop-node.self.parts.items) c.args.expr.now _ _
    c.loop-node.invariant.nodes c.loop-node-test.false c.loop-node.invariant.so_far in
    (only_part _ _ _ _ _ _ _ _ are c.pop.ensures.parts).none

pub returns-clause-part : goal.returns-clause-part
returns-clause-part c =
    let are = all_so_far (λ trees. AreSplit c.args.self.now.common c.args.self.now.base c.args.self.now.pieces.items trees
    c.loop-node.self.pieces.items c.loop-node.self.parts.items) c.args.expr.now _ _
    c.loop-node.invariant.nodes c.loop-node-test.false c.loop-node.invariant.so_far in
    (only_part _ _ _ _ _ _ _ _ are c.pop.ensures.parts).part_is

pub returns-clause-pieces : goal.returns-clause-pieces
returns-clause-pieces c =
    let are = all_so_far (λ trees. AreSplit c.args.self.now.common c.args.self.now.base c.args.self.now.pieces.items trees
    c.loop-node.self.pieces.items c.loop-node.self.parts.items) c.args.expr.now _ _
    c.loop-node.invariant.nodes c.loop-node-test.false c.loop-node.invariant.so_far in
    c.pop.ensures.pieces ∙ (only_part _ _ _ _ _ _ _ _ are c.pop.ensures.parts).pieces_are
