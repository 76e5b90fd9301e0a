use Rattle.std.proofs.Common.{◌≡◌, ◌<◌, ◌∙◌, length, get_or, sym, subst, arith, refl}
use Rattle.std.proofs.lemmas.List.{get_or_default}
use Rattle.std.specs.Prelude.{IfSome}
use Rattle.pram_machine.specs.declared.requests.Request.{Request}
use Rattle.pram_machine.specs.Machine.{IsDataPlace}
use Rattle.pram_step.specs.Inner.Passes.{IsPassed, bound}
use Rattle.pram_machine.specs.Turns.{request_of}
use Rattle.pram_step.proofs.Applying.{passed_next, passed_turn}
use Rattle.pram_step.proofs.Passing.{bound_inside, count_after}
use Rattle.pram_machine.proofs.Shapes.{request_own}
use Rattle.pram_step.proofs.lockstep.take_one.Goals as goal

pub move_on-requires-clause-own : goal.move_on-requires-clause-own
move_on-requires-clause-own c =
    let job = c.args.fetched.job.now in
    let p = get_or c.args.running.now c.args.turns.taken 0 in
    subst (λ (r : Request). IfSome r.put (λ w. IsDataPlace job p w.0))
    (sym c.turn-turn.ensures.value)
    (request_own job c.args.places.now p c.limits_hold.ensures)

pub returns-clause-on : goal.returns-clause-on
returns-clause-on c =
    let job = c.args.fetched.job.now in
    let is_job = c.limits_hold.ensures in
    let running = c.args.running.now in
    let begun = c.requires.begun in
    let k = c.args.turns.taken in
    let p = get_or running k 0 in
    let inside : k < length running = omega arith in
    let low : p < job.procs = begun.within k 0 inside in record {
      later = omega arith;
      begun = record {
        within = begun.within;
        rises = begun.rises;
        places = c.move_on.ensures.len ∙ begun.places;
        room = c.take_up.auto.asked ∙ begun.room;
        inside = omega arith;
        few =
            let few = c.take_up.ensures.few in
            let was = begun.few in
            let e = get_or_default running k job.procs 0 inside in
            count_after job running begun.rises begun.within k c.take_up.result inside
            (omega arith);
      };
      passed = λ start places are passed.
          let e : bound job running k ≡ p = bound_inside job start running are k inside in
          let before = subst (λ n. IsPassed job start n c.args.places.now c.args.asked.now
          c.args.turns.stores) e passed in
          passed_next job is_job start places running are k inside c.move_on.new.places
          c.take_up.new.asked c.take_up.result
          (passed_turn job is_job start places p low c.args.places.now before.own
          c.args.asked.now c.args.turns.stores before.stores
          (request_of c.turn-turn.result) c.turn-turn.ensures.value c.move_on.new.places
          c.move_on.ensures c.take_up.new.asked c.take_up.result
          c.take_up.ensures.asked);
    }
