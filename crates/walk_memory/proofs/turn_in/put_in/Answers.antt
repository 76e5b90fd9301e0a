use Rattle.std.proofs.Common.{arith}
use Rattle.walk_memory.proofs.Shaped.{register_of}
use Rattle.walk_memory.proofs.turn_in.put_in.Goals as goal

pub overflow_sub-r : goal.overflow_sub-r
overflow_sub-r c =
    let own = register_of c.args.job.now c.args.i c.args.turn c.in-Register.place c.in-Register.value
    c.requires.shape c.in-Register.is in
    omega (arith, own.0, c.register_place.ensures.value)

pub set_entry-requires-clause-row : goal.set_entry-requires-clause-row
set_entry-requires-clause-row c =
    let own = register_of c.args.job.now c.args.i c.args.turn c.in-Register.place c.in-Register.value
    c.requires.shape c.in-Register.is in
    omega (arith, own.0, own.1, c.register_place.ensures.value)
