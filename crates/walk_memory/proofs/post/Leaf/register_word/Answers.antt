use Rattle.std.proofs.Common.{◌+◌, ◌*◌, ap, subst, arith}
use Rattle.pram_machine.specs.Machine.{register_place}
use Rattle.walk_memory.specs.Inner.Posts.{IsPairAt, PostData, processor_of}
use Rattle.walk_memory.proofs.Boards.{own_register, own_small}
use Rattle.walk_memory.proofs.post.Leaf.register_word.Goals as goal

pub overflow_mul-result : goal.overflow_mul-result
overflow_mul-result c =
    let small = own_small _ _ _ _ _ _ c.self.invariant.0 c.args.register c.requires in
    let same = ap (λ r. c.self.inside.own.stride * r) c.from.ensures in
    omega (arith, small, same)

pub overflow_add-result : goal.overflow_add-result
overflow_add-result c =
    let small = own_small _ _ _ _ _ _ c.self.invariant.0 c.args.register c.requires in
    let same = ap (λ r. c.self.inside.own.stride * r) c.from.ensures in
    omega (arith, small, same)

pub returns : goal.returns
returns c = rw c.from.ensures (subst (λ (p : PostData). IsPairAt p.layout
    (register_place p.job (processor_of p) c.args.register)
    (c.self.inside.own.registers + c.self.inside.own.stride * c.args.register)) c.self.view_is
    (own_register _ _ _ _ _ _ c.self.invariant.0 c.args.register c.requires))
