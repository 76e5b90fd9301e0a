use Rattle.std.proofs.Common.{Err, refl, ◌∙◌}
use Rattle.std.proofs.lemmas.Option.{slice_get_within}
use Rattle.pram_machine.specs.Instructions.{gives}
use Rattle.walk_memory.specs.Inner.Posts.{processor_of}
use Rattle.walk_memory.specs.Memory.{at_start}
use Rattle.walkx.specs.WideParts.{learned}
use Rattle.walkx.proofs.FirstPass.{made_with, reads_first}
use Rattle.walkx.proofs.Landing.{load_lands, load_learned}
use Rattle.walkx.proofs.Passing.{passed}
use Rattle.walkx.proofs.Settling.{learned_comes}
use Rattle.walkx.proofs.Turning.{comes_to}
use Rattle.walkx.proofs.wide_own.own_loaded.Goals as goal

pub read_place-requires-clause-next : goal.read_place-requires-clause-next
read_place-requires-clause-next g c =
    let at = c.args.leaf.now in
    let memo = c.args.memo.now in
    let instr = c.args.instr.now in
    let stands = g.S.Steps.stands at in
    let r = c.requires.next in
    record {
      from = r.from;
      after = r.next at_start;
      next = made_with stands at memo instr r.from r.next;
      here = reads_first stands at memo instr r.from r.next c.args.steps.now c.args.cell
          c.requires.cell r.after r.here;
    }

pub load-requires-clause-counter : goal.load-requires-clause-counter
load-requires-clause-counter g c =
    slice_get_within c.args.leaf.now.job.code c.args.memo.now.own.counter c.args.instr.now
    c.requires.stand.1

pub land_own-requires : goal.land_own-requires
land_own-requires g c =
    let at = c.args.leaf.now in
    let memo = c.args.memo.now in
    let instr = c.args.instr.now in
    let stands = g.S.Steps.stands at in
    let given = gives at.job (processor_of at) memo.own.counter c.in-Ld.register c.in-Ok.value in
    let r = c.requires.next in
    record {
      next = record {
        from = r.from;
        after = r.after;
        next = λ done. r.next (learned at memo given);
        here = load_lands at memo (record memo { own = c.load.new.self }) c.in-Ld.register
            c.in-Ok.value c.load.ensures instr c.in-Ld.field-1 c.args.cell c.in-Ld.is
            c.requires.stand.1 c.requires.cell stands r.from c.read_place.new.steps
            r.after r.next refl (c.in-Ok.ensures.plays.on r.from (r.next at_start)
            (made_with stands at memo instr r.from r.next)
            (reads_first stands at memo instr r.from r.next c.args.steps.now c.args.cell
            c.requires.cell r.after r.here));
      };
    }

pub returns-in-Err : goal.returns-in-Err
returns-in-Err g c =
    let at = c.args.leaf.now in
    let memo = c.args.memo.now in
    let instr = c.args.instr.now in
    let stands = g.S.Steps.stands at in
    rw c.forget.ensures (record {
      plays = record {
        on = λ from late next here. comes_to stands from _ _ _
            (learned_comes (Err c.in-Err.why) at_start late next)
            (c.in-Err.ensures.plays.on from (next at_start)
            (made_with stands at memo instr from next)
            (reads_first stands at memo instr from next c.args.steps.now c.args.cell
            c.requires.cell late here));
      };
    })

pub returns-in_err-land_own-in-Ld : goal.returns-in_err-land_own-in-Ld
returns-in_err-land_own-in-Ld g c =
    let at = c.args.leaf.now in
    let memo = c.args.memo.now in
    let instr = c.args.instr.now in
    let stands = g.S.Steps.stands at in
    let taken = record memo { own = c.load.new.self } in
    let given = gives at.job (processor_of at) memo.own.counter c.in-Ld.register c.in-Ok.value in
    rw (passed c.from_residual.result _ c.from_residual.ensures.1) (record {
      plays = record {
        on = λ from late next here. comes_to stands from _ _ _
            (learned_comes (Err _) taken late next)
            (c.in_err-land_own-in-Ld.ensures.plays.on from (next taken)
            (λ done. next (learned at memo given))
            (load_lands at memo taken c.in-Ld.register c.in-Ok.value c.load.ensures instr
            c.in-Ld.field-1 c.args.cell c.in-Ld.is c.requires.stand.1 c.requires.cell stands from
            c.read_place.new.steps (next taken) next refl
            (c.in-Ok.ensures.plays.on from (next at_start)
            (made_with stands at memo instr from next)
            (reads_first stands at memo instr from next c.args.steps.now c.args.cell
            c.requires.cell late here))));
      };
    })

pub returns : goal.returns
returns g c =
    let at = c.args.leaf.now in
    let memo = c.args.memo.now in
    let instr = c.args.instr.now in
    let stands = g.S.Steps.stands at in
    let taken = record memo { own = c.load.new.self } in
    let given = gives at.job (processor_of at) memo.own.counter c.in-Ld.register c.in-Ok.value in
    rw (c.land.ensures ∙ load_learned at memo taken c.in-Ld.register c.in-Ok.value c.load.ensures
    instr c.in-Ld.field-1 c.args.cell c.in-Ld.is c.requires.stand.1 c.requires.cell
    c.requires.stand.0) (record {
      plays = record {
        on = λ from late next here. c.in_ok-land_own-in-Ld.ensures.plays.on from late
            (λ done. next (learned at memo given))
            (load_lands at memo taken c.in-Ld.register c.in-Ok.value c.load.ensures instr
            c.in-Ld.field-1 c.args.cell c.in-Ld.is c.requires.stand.1 c.requires.cell stands from
            c.read_place.new.steps late next refl
            (c.in-Ok.ensures.plays.on from (next at_start)
            (made_with stands at memo instr from next)
            (reads_first stands at memo instr from next c.args.steps.now c.args.cell
            c.requires.cell late here)));
      };
    })
