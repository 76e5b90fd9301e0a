use Rattle.walkx.proofs.Fetched.{fetched_none, fetched_some}
use Rattle.walkx.specs.Tasks.{compute_task}
use Rattle.walkx.proofs.Passing.{passed}
use Rattle.walkx.specs.Parts.{after_counter}
use Rattle.walkx.proofs.request.compute.Goals as goal

pub read_place-requires-clause-next : goal.read_place-requires-clause-next
unfolding compute_task
read_place-requires-clause-next g c =
    let r = c.requires.due in
    rw c.counter_place-place.ensures.value (record {
      from = r.from;
      after = r.after;
      next = after_counter c.args.leaf.now r.after;
      here = r.here;
    })

pub read_place-requires-clause-word : goal.read_place-requires-clause-word
read_place-requires-clause-word g c = rw c.counter_place-place.ensures.value c.counter_word.ensures

pub returns-in_err-counter : goal.returns-in_err-counter
unfolding compute_task
returns-in_err-counter g c =
    rw (passed c.from_residual.result _ c.from_residual.ensures.1) (record {
      ends = record {
        on = λ from after here.
            rw c.counter_place-place.ensures.value at
            (c.in_err-counter.ensures.plays.on from after (after_counter c.args.leaf.now after))
            here;
      };
    })

pub raise_request-requires-clause-due : goal.raise_request-requires-clause-due
unfolding compute_task
raise_request-requires-clause-due g c =
    let r = c.requires.due in
    let read = rw c.counter_place-place.ensures.value
    at (c.in_ok-counter.ensures.plays.on r.from r.after
    (after_counter c.args.leaf.now r.after)) r.here in
    rw c.goes_to.ensures (record {
      from = r.from;
      after = r.after;
      here = rw (fetched_none _ _ _ c.fetch.ensures.value c.in-None.is) at read;
    })

pub execute-requires-clause-due : goal.execute-requires-clause-due
unfolding compute_task
execute-requires-clause-due g c =
    let r = c.requires.due in
    let read = rw c.counter_place-place.ensures.value
    at (c.in_ok-counter.ensures.plays.on r.from r.after
    (after_counter c.args.leaf.now r.after)) r.here in
    record {
      from = r.from;
      after = r.after;
      here = rw (fetched_some _ _ _ _ c.fetch.ensures.value c.in-Some.is) at read;
    }

pub returns-in-None : goal.returns-in-None
unfolding compute_task
returns-in-None g c = record {
  ends = record {
    on = λ from after here.
        let read = rw c.counter_place-place.ensures.value at
        (c.in_ok-counter.ensures.plays.on from after (after_counter c.args.leaf.now after)) here in
        rw c.goes_to.ensures at (c.raise_request.ensures.ends.on from after)
        (rw (fetched_none _ _ _ c.fetch.ensures.value c.in-None.is) at read);
  };
}

pub returns-in-Some : goal.returns-in-Some
unfolding compute_task
returns-in-Some g c = record {
  ends = record {
    on = λ from after here.
        let read = rw c.counter_place-place.ensures.value at
        (c.in_ok-counter.ensures.plays.on from after (after_counter c.args.leaf.now after)) here in
        c.execute.ensures.ends.on from after
        (rw (fetched_some _ _ _ _ c.fetch.ensures.value c.in-Some.is) at read);
  };
}
