use Rattle.std.proofs.Common.{◌≡◌, ◌<◌, ◌≤◌, length, get_or, subst, inl, refl, arith}
use Rattle.std.proofs.lemmas.List.{get_or_default}
use Rattle.pram_machine.specs.Machine.{IsStopped, counter_place}
use Rattle.pram_step.specs.Inner.Passes.{IsPassed, bound}
use Rattle.pram_step.proofs.Applying.{passed_next, passed_stopped}
use Rattle.pram_step.proofs.Passing.{bound_inside, count_after}
use Rattle.pram_step.proofs.lockstep.take_single.Goals as goal

-- the next processor has stopped
pub returns-in-None : goal.returns-in-None
returns-in-None c =
    let job = c.args.job.now in
    let is_job = c.limits_hold.ensures in
    let running = c.args.running.now in
    let now = c.args.places.now in
    let asked = c.args.asked.now in
    let stores = c.args.turns.stores in
    let begun = c.requires.begun in
    let k = c.args.turns.taken in
    let p = get_or running k 0 in
    let inside : k < length running = omega arith in
    let low : p < job.procs = begun.within k 0 inside in
    let past = subst (λ q. length job.code ≤ get_or now q 0) c.counter_place.ensures.value
    c.in-None.ensures in record {
      later = omega arith;
      begun = record {
        within = begun.within;
        rises = begun.rises;
        places = begun.places;
        room = begun.room;
        inside = omega arith;
        few =
            let few = begun.few in
            let here = get_or_default running k job.procs 0 inside in
            count_after job running begun.rises begun.within k stores inside (omega arith);
      };
      passed = λ start places are passed.
          let e : bound job running k ≡ p = bound_inside job start running are k inside in
          let before = subst (λ n. IsPassed job start n now asked stores) e passed in
          let same = before.own.left p (counter_place job p) (omega arith) low (inl refl) in
          let stopped : IsStopped job start p = omega arith in
          passed_next job is_job start places running are k inside now asked stores
          (passed_stopped job is_job start places now asked stores p low stopped before);
    }
