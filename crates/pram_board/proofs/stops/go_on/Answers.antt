use Rattle.std.proofs.Common.{arith}
use Rattle.pram_board.proofs.Stopping.{turn_place}
use Rattle.pram_board.proofs.stops.go_on.Goals as goal

pub overflow_sub-own : goal.overflow_sub-own
overflow_sub-own c =
    let own = turn_place c.args.job.now c.args.i c.args.own.now.counter _ _ 0 c.args.instr.now
    c.decided_by-turn.result c.requires.instr c.requires.counter c.decided_by-turn.ensures
    c.in-Register.place c.in-Register.value c.in-Register.is in
    omega (arith, own.0, c.register_place.ensures.value)

pub bounds-own-place : goal.bounds-own-place
bounds-own-place c =
    let own = turn_place c.args.job.now c.args.i c.args.own.now.counter _ _ 0 c.args.instr.now
    c.decided_by-turn.result c.requires.instr c.requires.counter c.decided_by-turn.ensures
    c.in-Register.place c.in-Register.value c.in-Register.is in
    omega (arith, own.0, own.1, c.register_place.ensures.value)
