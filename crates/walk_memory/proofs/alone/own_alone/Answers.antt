use Rattle.std.proofs.Common.{◌+◌, ◌-◌, sym, ◌∙◌, arith}
use Rattle.pram_machine.specs.Turns.{request_of}
use Rattle.walk_memory.specs.Inner.Posts.{processor_of}
use Rattle.walk_memory.proofs.GoingAlone.{one_more, stays_alone}
use Rattle.walk_memory.proofs.alone.own_alone.Goals as goal

pub returns-in-None : goal.returns-in-None
returns-in-None c =
    let at = c.args.leaf.now in
    sym (stays_alone at.job c.loop.own c.in-None.ensures.value (processor_of at)
    (c.args.more - c.loop.counter)) ∙ c.loop.invariant

pub loop-preserved : goal.loop-preserved
loop-preserved c =
    let at = c.args.leaf.now in
    rw c.take.ensures (sym (one_more at.job (processor_of at) (c.args.more - c.loop.counter)
    (c.args.more - (c.loop.counter + 1)) c.loop.own c.in-Some.instr.now
    (request_of c.turn_by-turn.result) (omega arith) c.in-Some.ensures.value
    c.turn_by-turn.ensures.value) ∙ c.loop.invariant)
