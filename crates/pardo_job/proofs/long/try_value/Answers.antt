use Rattle.std.proofs.Common.{◌≡◌, ◌++◌, [], refl, arith, Err, rules}
use Rattle.pardo_job.proofs.Putting.{put_none, put_more, put_fails, put_all, value_taken, is_there}
use Rattle.pardo_job.proofs.Putting.{takes_after}
use Rattle.pardo_job.proofs.long.try_value.Goals as goal

pub loop-node-init : goal.loop-node-init
loop-node-init c = record {
  nodes = c.nodes-node-items.ensures;
  made = [];
  so_far = put_none _ _ c.args.expr.now _ [] [] _ c.nodes-node-items.ensures c.requires.lawful refl
      c.above-stack.ensures.values c.above-stack.ensures.taken;
}

pub returns-in_err-put_node-clause-fault : goal.returns-in_err-put_node-clause-fault
returns-in_err-put_node-clause-fault c =
    let e : c.from_residual.result ≡ Err c.in_err-put_node.field-0.0 = search rules in
    (put_fails c.args.layout.now _ c.args.expr.now _ _ [] _ _ _ _ _ _ c.loop-node.invariant.nodes
    c.loop-node-test.true
    (takes_after _ c.loop-node.invariant.made _ _ _ _ c.args.layout.now _ c.clear.ensures.items
    c.in_err-put_node.ensures) c.loop-node.invariant.so_far _ e).fault

pub loop-node-preserved : goal.loop-node-preserved
loop-node-preserved c = record {
  nodes = c.loop-node.invariant.nodes;
  made = c.loop-node.invariant.made ++ c.put_node.new.code.items;
  so_far = put_more c.args.layout.now _ _ _ [] _ _ _ _ _ _ c.loop-node-test.true
      (takes_after _ c.loop-node.invariant.made _ _ _ _ c.args.layout.now _ c.clear.ensures.items
      c.in_ok-put_node.ensures) c.loop-node.invariant.so_far;
}

pub pop-requires : goal.pop-requires
pop-requires c = omega (
  arith,
  c.loop-node.stack.values.ok,
  is_there c.loop-node.stack c.args.at c.args.expr.now
      (put_all c.args.layout.now c.args.at c.args.expr.now _ _ [] c.loop-node.invariant.made
      c.loop-node.stack c.loop-node.invariant.nodes c.loop-node-test.false
      c.loop-node.invariant.so_far).holds,
)

pub returns-clause-shallow : goal.returns-clause-shallow
returns-clause-shallow c =
    (put_all c.args.layout.now c.args.at c.args.expr.now _ _ [] c.loop-node.invariant.made
    c.loop-node.stack c.loop-node.invariant.nodes c.loop-node-test.false
    c.loop-node.invariant.so_far).shallow

pub returns-clause-held : goal.returns-clause-held
returns-clause-held c =
    let all = put_all c.args.layout.now c.args.at c.args.expr.now _ _ []
    c.loop-node.invariant.made c.loop-node.stack c.loop-node.invariant.nodes
    c.loop-node-test.false c.loop-node.invariant.so_far in
    (value_taken c.loop-node.stack c.pop.new.self c.pop.result c.args.at c.args.expr.now
    c.loop-node.stack.few all.holds
    c.pop.ensures.values c.pop.ensures.taken).is

pub returns-clause-taken : goal.returns-clause-taken
returns-clause-taken c =
    let all = put_all c.args.layout.now c.args.at c.args.expr.now _ _ []
    c.loop-node.invariant.made c.loop-node.stack c.loop-node.invariant.nodes
    c.loop-node-test.false c.loop-node.invariant.so_far in
    (value_taken c.loop-node.stack c.pop.new.self c.pop.result c.args.at c.args.expr.now
    c.loop-node.stack.few all.holds
    c.pop.ensures.values c.pop.ensures.taken).takes_as
