use Rattle.std.proofs.Common.{◌≤◌, List, length, take, drop, sym, subst, ◌∙◌, arith, inl, refl}
use Rattle.pram_step.specs.declared.stores.Store.{Store}
use Rattle.pram_machine.specs.Instructions.{requests_in}
use Rattle.pram_machine.specs.Machine.{counter_place}
use Rattle.pram_step.specs.Steps.{IsVerdict}
use Rattle.pram_step.specs.Inner.Marks.{AreAsked}
use Rattle.pram_step.proofs.Applying.{advanced, passed_cells}
use Rattle.pram_step.proofs.Marking.{AreAsked_take, refilled}
use Rattle.pram_machine.proofs.Shapes.{length-requests_in}
use Rattle.pram_step.proofs.pass.advance.Goals as goal

pub returns-in-Some-clause-dispute : goal.returns-in-Some-clause-dispute
returns-in-Some-clause-dispute c =
    let job = c.args.job.now in
    let s = c.args.places.now in
    let count = c.pass-count.result in
    let room : count ≤ length c.deref.result.now = omega arith in
    let are = AreAsked_take job.cells (requests_in job s) job.procs c.deref.result.now count room
    (subst (λ (xs : List Store). AreAsked job.cells (requests_in job s) job.procs xs count)
    (sym (c.deref.ensures.value ∙ refilled c.args.stores.now.asked.len c.pass-count.new.asked
    (drop (length c.pass-count.new.asked) c.args.stores.now.asked.items) (omega arith)))
    c.pass-count.ensures.passed.stores) in
    subst (IsVerdict job (requests_in job s)) c.in-Some.is
    (c.judge_all.ensures (requests_in job s)
    (subst (λ n. AreAsked job.cells (requests_in job s) n (take count c.deref.result.now)
    (length (take count c.deref.result.now))) (sym (length-requests_in job s)) are))

pub returns-in-Some-clause-turns : goal.returns-in-Some-clause-turns
returns-in-Some-clause-turns c =
    let job = c.args.job.now in
    let own = c.pass-count.ensures.passed.own in
    record {
      cells = passed_cells job c.limits_hold.ensures c.args.places.now c.requires.places
          c.pass-count.new.places own;
      counters = record {
        len = own.len ∙ c.requires.places;
        same = λ i low. own.moved i (counter_place job i) low low (inl refl);
      };
    }

pub returns-in-None-clause-made : goal.returns-in-None-clause-made
returns-in-None-clause-made c =
    let job = c.args.job.now in
    let s = c.args.places.now in
    let count = c.pass-count.result in
    let room : count ≤ length c.deref.result.now = omega arith in
    let are = AreAsked_take job.cells (requests_in job s) job.procs c.deref.result.now count room
    (subst (λ (xs : List Store). AreAsked job.cells (requests_in job s) job.procs xs count)
    (sym (c.deref.ensures.value ∙ refilled c.args.stores.now.asked.len c.pass-count.new.asked
    (drop (length c.pass-count.new.asked) c.args.stores.now.asked.items) (omega arith)))
    c.pass-count.ensures.passed.stores) in
    advanced job c.limits_hold.ensures s c.requires.places c.pass-count.new.places
    c.pass-count.ensures.passed.own (take count c.deref.result.now) are
    c.write_stores.new.places c.write_stores.ensures
    (subst (IsVerdict job (requests_in job s)) c.in-None.is
    (c.judge_all.ensures (requests_in job s)
    (subst (λ n. AreAsked job.cells (requests_in job s) n (take count c.deref.result.now)
    (length (take count c.deref.result.now))) (sym (length-requests_in job s)) are)))
    c.args.running.now c.requires.running
