use Rattle.std.proofs.Common.{◌<◌, length, sym, subst, ◌∙◌}
use Rattle.std.proofs.lemmas.Option.{slice_get_within}
use Rattle.pram_machine.proofs.Shapes.{instr_is}
use Rattle.walk_memory.specs.declared.memo.Own.{Own}
use Rattle.walk_memory.specs.Lanes.{lane}
use Rattle.walk_memory.proofs.GoingAlone.{stays_at, stays_load}
use Rattle.walk_memory.proofs.alone.go_one.Goals as goal
use Rattle.walk_memory.proofs.alone.go_one.Goals.{then-is_due-via-then-is_due}
use Rattle.walk_memory.proofs.alone.go_one.Goals.{then-is_due-via-else-is_due+then-is_load}

pub returns-then-is_due-clause-value : goal.returns-then-is_due-clause-value
returns-then-is_due-clause-value c =
    let job = c.args.job.now in
    let memo = lane c.args.block.now c.args.k in
    elim c.then-is_due.branch [
      | then-is_due-via-then-is_due w ↦
          stays_at job c.args.i memo c.args.instr.now c.requires.instr (sym c.is_due.ensures ∙ w.if-is_due.true)
      | then-is_due-via-else-is_due+then-is_load w ↦
          stays_load job c.args.i memo c.args.instr.now c.requires.instr
          (sym w.is_load.ensures ∙ w.if-is_load.true)
    ]

pub turn_of-turn-requires-clause-counter : goal.turn_of-turn-requires-clause-counter
turn_of-turn-requires-clause-counter c =
    let memo = lane c.args.block.now c.args.k in
    subst (λ (o : Own). o.counter < length c.args.job.now.code) (sym c.own.ensures)
    (slice_get_within c.args.job.now.code memo.own.counter c.args.instr.now c.requires.instr)

pub turn_of-turn-requires-clause-instr : goal.turn_of-turn-requires-clause-instr
turn_of-turn-requires-clause-instr c =
    let memo = lane c.args.block.now c.args.k in
    instr_is c.args.job.now memo.own.counter c.args.instr.now c.limits_hold.ensures
    c.requires.instr
