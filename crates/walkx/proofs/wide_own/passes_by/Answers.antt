use Rattle.std.proofs.Common.{sym, ◌∙◌}
use Rattle.std.proofs.lemmas.Option.{slice_get_within}
use Rattle.pram_machine.proofs.Shapes.{instr_is}
use Rattle.walkx.proofs.Silent.{claiming_asks, lagging_rests, settles_not, settling_asks}
use Rattle.walkx.proofs.wide_own.passes_by.Goals as goal

pub returns-then-settles_by-clause-idle : goal.returns-then-settles_by-clause-idle
returns-then-settles_by-clause-idle c =
    settling_asks c.args.leaf.now c.args.memo.now c.args.instr.now c.requires.before
    c.requires.stand.1 (sym c.settles_by.ensures ∙ c.if-settles_by.true)

pub turn_by-turn-requires-clause-counter : goal.turn_by-turn-requires-clause-counter
turn_by-turn-requires-clause-counter c =
    slice_get_within c.args.leaf.now.job.code c.args.memo.now.own.counter c.args.instr.now
    c.requires.stand.1

pub turn_by-turn-requires-clause-instr : goal.turn_by-turn-requires-clause-instr
turn_by-turn-requires-clause-instr c =
    instr_is c.args.leaf.now.job c.args.memo.now.own.counter c.args.instr.now
    c.job.ensures.limits.board.limits c.requires.stand.1

pub returns-then-is_some-clause-idle : goal.returns-then-is_some-clause-idle
returns-then-is_some-clause-idle c =
    claiming_asks c.args.leaf.now c.args.memo.now c.args.instr.now c.requires.before
    c.requires.stand.1 (sym c.settles_by.ensures ∙ c.if-settles_by.false) _
    c.turn_by-turn.ensures.value _ c.claimed.ensures.value
    (sym c.is_some.ensures ∙ c.if-is_some.true)

pub take_up-requires-clause-settles : goal.take_up-requires-clause-settles
take_up-requires-clause-settles c =
    settles_not c.args.leaf.now c.args.memo.now c.args.instr.now c.requires.before
    c.requires.stand.1
    (sym c.settles_by.ensures ∙ c.if-settles_by.false) _ c.turn_by-turn.ensures.value _
    c.claimed.ensures.value

pub returns-clause-idle : goal.returns-clause-idle
returns-clause-idle c =
    rw c.take_up.ensures (lagging_rests c.args.leaf.now c.args.memo.now c.args.instr.now
    c.requires.before c.requires.stand.1 (sym c.settles_by.ensures ∙ c.if-settles_by.false) _
    c.turn_by-turn.ensures.value _ c.claimed.ensures.value
    (sym c.is_some.ensures ∙ c.if-is_some.false))
