use Rattle.std.proofs.Common.{arith}
use Rattle.walk_memory.specs.Inner.Posts.{processor_of}
use Rattle.walk_memory.proofs.Shaped.{register_of}
use Rattle.walk_memory.proofs.memo.Own.take.Goals as goal

pub overflow_sub-self : goal.overflow_sub-self
overflow_sub-self c =
    let own = register_of c.args.leaf.now.job (processor_of c.args.leaf.now) c.args.turn
    c.in-Register.place c.in-Register.value c.requires c.in-Register.is in
    omega (arith, own.0, c.register_place.ensures.value)

pub bounds-self-place : goal.bounds-self-place
bounds-self-place c =
    let own = register_of c.args.leaf.now.job (processor_of c.args.leaf.now) c.args.turn
    c.in-Register.place c.in-Register.value c.requires c.in-Register.is in
    omega (arith, own.0, own.1, c.register_place.ensures.value)
