use Rattle.std.proofs.Common.{◌≡◌, ◌+◌, ◌<◌, ◌≤◌, List, length, take, drop, sym, subst}
use Rattle.std.proofs.Common.{None, arith}
use Rattle.std.proofs.lemmas.Option.{slice_get-get_or}
use Rattle.pram_step.specs.declared.stores.Store.{Store}
use Rattle.pram_step.specs.Inner.Marks.{AreAsked}
use Rattle.pram_step.proofs.Marking.{AreAsked_take, refilled}
use Rattle.pram_step.proofs.RequestList.{request_at}
use Rattle.pram_step.proofs.conflict.dispute.Goals as goal

pub loop-processor-preserved : goal.loop-processor-preserved
loop-processor-preserved c =
    let cells = c.args.job.now.cells in
    let requests = c.args.requests.now in
    let p = c.loop-processor.processor in
    let inside : p < length requests = omega arith in record {
      room = record {
        asked = c.loop-processor.invariant.room.asked;
        marks = c.loop-processor.invariant.room.marks;
      };
      few =
          let was = c.loop-processor.invariant.few in
          let few = c.take_up-count.ensures.few in omega arith;
      asked = subst (λ (xs : List Store). AreAsked cells requests (p + 1) xs c.take_up-count.result)
          (sym (refilled c.loop-processor.stores.asked.len c.take_up-count.new.asked
          (drop (length c.take_up-count.new.asked) c.loop-processor.stores.asked.items)
          (omega arith)))
          (c.take_up-count.ensures.asked requests (request_at requests p)
          (slice_get-get_or requests p (record { put = None; next = 0 }) inside) (sym c.of-put.ensures.value)
          (subst (λ (xs : List Store). AreAsked cells requests p xs c.loop-processor.count)
          (sym c.deref_mut.ensures.value) c.loop-processor.invariant.asked));
    }

pub returns : goal.returns
returns c =
    let cells = c.args.job.now.cells in
    let requests = c.args.requests.now in
    let count = c.loop-processor.count in
    let few = c.loop-processor.invariant.few in
    let asked = c.loop-processor.invariant.room.asked in
    let over : c.loop-processor.processor ≡ length requests = omega arith in
    let room : count ≤ length c.deref.result.now = omega arith in
    c.judge_all.ensures requests
    (subst (λ n. AreAsked cells requests n (take count c.deref.result.now)
    (length (take count c.deref.result.now))) over
    (AreAsked_take cells requests c.loop-processor.processor c.deref.result.now count room
    (subst (λ (xs : List Store). AreAsked cells requests c.loop-processor.processor xs count)
    (sym c.deref.ensures.value) c.loop-processor.invariant.asked)))
