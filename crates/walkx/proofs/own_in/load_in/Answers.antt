use Rattle.std.proofs.Common.{◌≡◌, Err, refl, ap, ◌∙◌}
use Rattle.std.proofs.lemmas.Option.{slice_get_within}
use Rattle.pram_job.specs.declared.instr.Instr.TheVariants.{Ld}
use Rattle.pram_machine.specs.Instructions.{gives}
use Rattle.walk_memory.specs.declared.memo.Memo.{Memo}
use Rattle.walk_memory.specs.Inner.Posts.{processor_of, step_of}
use Rattle.walk_memory.specs.Lanes.{lane}
use Rattle.walk_memory.specs.Memory.{at_start}
use Rattle.walkx.specs.Places.{tells_all}
use Rattle.walkx.specs.WideParts.{learned}
use Rattle.walkx.proofs.FirstPass.{made_with, reads_first, settles_reading}
use Rattle.walkx.proofs.Landing.{load_lands}
use Rattle.walkx.proofs.Placed.{ok_learns, turned_settled}
use Rattle.walkx.proofs.Settling.{learned_comes}
use Rattle.walkx.proofs.TakingUp.{own_next, own_plays}
use Rattle.walkx.proofs.Turning.{comes_to}
use Rattle.walkx.proofs.own_in.load_in.Goals as goal

pub read_place-requires-clause-next : goal.read_place-requires-clause-next
read_place-requires-clause-next g c =
    let at = c.args.leaf.now in
    let memo = lane c.args.block.now c.args.load.lane in
    let p = c.requires.loads in
    let instr = Ld c.args.load.register p.place in
    let stands = g.S.Steps.stands at in
    let r = own_next at memo instr p.stands.first p.stands.before p.stands.code stands
    c.args.steps.now
    c.requires.next in
    record {
      from = r.from;
      after = r.next at_start;
      next = made_with stands at memo instr r.from r.next;
      here = reads_first stands at memo instr r.from r.next c.args.steps.now c.args.load.cell
          p.reads r.after r.here;
    }

pub take_value-requires : goal.take_value-requires
take_value-requires g c =
    let memo = lane c.args.block.now c.args.load.lane in
    let p = c.requires.loads in
    slice_get_within c.args.leaf.now.job.code memo.own.counter (Ld c.args.load.register p.place)
    p.stands.code

pub land_in-requires : goal.land_in-requires
land_in-requires g c =
    let at = c.args.leaf.now in
    let memo = lane c.args.block.now c.args.load.lane in
    let taken = lane c.take_value.new.block c.args.load.lane in
    let p = c.requires.loads in
    let reg = c.args.load.register in
    let cell = c.args.load.cell in
    let value = c.in-Ok.value in
    let instr = Ld reg p.place in
    let stands = g.S.Steps.stands at in
    let r = own_next at memo instr p.stands.first p.stands.before p.stands.code stands
    c.args.steps.now
    c.requires.next in
    let then = r.next (learned at memo
    (gives at.job (processor_of at) memo.own.counter reg value)) in
    record {
      next = record {
        from = r.from;
        after = r.after;
        next = λ done. then;
        here = load_lands at memo taken reg value
            (ap (λ (m : Memo). m.own) c.take_value.ensures.same) instr
            p.place cell refl p.stands.code p.reads stands r.from c.read_place.new.steps
            r.after r.next (ap (λ (m : Memo). m.told) c.take_value.ensures.same)
            (c.in-Ok.ensures.plays.on r.from (r.next at_start)
            (made_with stands at memo instr r.from r.next)
            (reads_first stands at memo instr r.from r.next c.args.steps.now cell p.reads
            r.after r.here));
      };
    }

pub returns-in-Err : goal.returns-in-Err
returns-in-Err g c =
    let at = c.args.leaf.now in
    let memo = lane c.args.block.now c.args.load.lane in
    let p = c.requires.loads in
    let instr = Ld c.args.load.register p.place in
    let stands = g.S.Steps.stands at in
    record {
      others = c.forget.ensures.others;
      plays = rw c.forget.ensures.same (own_plays at memo instr p.stands.first p.stands.before
          p.stands.code stands _ _ _ (record {
            on = λ from late next here. comes_to stands from _ _ _
                (learned_comes (Err c.in-Err.why) at_start late next)
                (c.in-Err.ensures.plays.on from (next at_start)
                (made_with stands at memo instr from next)
                (reads_first stands at memo instr from next c.args.steps.now
                c.args.load.cell p.reads late here));
          }));
    }

pub returns : goal.returns
returns g c =
    let at = c.args.leaf.now in
    let k = c.args.load.lane in
    let memo = lane c.args.block.now k in
    let taken = lane c.take_value.new.block k in
    let now = lane c.land_in.new.block k in
    let p = c.requires.loads in
    let reg = c.args.load.register in
    let cell = c.args.load.cell in
    let value = c.in-Ok.value in
    let instr = Ld reg p.place in
    let stands = g.S.Steps.stands at in
    let given = gives at.job (processor_of at) memo.own.counter reg value in
    let known = learned at memo given in
    let told : tells_all taken ≡ known = ap tells_all c.take_value.ensures.same
    ∙ turned_settled at memo given p.stands.first
    (settles_reading at.job memo.own instr p.stands.code (step_of at) memo.settled cell
    p.reads) in
    record {
      others = λ j other. c.land_in.ensures.others j other ∙ c.take_value.ensures.others j other;
      plays = own_plays at memo instr p.stands.first p.stands.before p.stands.code stands
          _ _ _ (record {
            on = λ from late next here. comes_to stands from _ _ _
                (ok_learns c.land_in.result now (tells_all taken) known c.land_in.ensures.told
                told late next) (c.land_in.ensures.plays.on from (next now) (λ done. next known)
                (load_lands at memo taken reg value
                (ap (λ (m : Memo). m.own) c.take_value.ensures.same) instr
                p.place cell refl p.stands.code p.reads stands from c.read_place.new.steps
                (next now) next (ap (λ (m : Memo). m.told) c.take_value.ensures.same)
                (c.in-Ok.ensures.plays.on from (next at_start)
                (made_with stands at memo instr from next)
                (reads_first stands at memo instr from next c.args.steps.now cell p.reads
                late here))));
          });
    }
