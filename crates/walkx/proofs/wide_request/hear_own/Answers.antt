use Rattle.walkx.proofs.HearingOwn.{all_heard, first_next, last_next, second_next, third_next}
use Rattle.walkx.proofs.wide_request.hear_own.Goals as goal

pub hear_before-requires-clause-next : goal.hear_before-requires-clause-next
hear_before-requires-clause-next g e =
    let at = e.args.leaf.now in
    let r = e.requires.next in
    rw e.counter_place.ensures.value (record {
      from = r.from;
      after = r.after;
      next = first_next at r.after r.next;
      here = r.here;
    })

pub hear_register-requires-clause-next : goal.hear_register-requires-clause-next
hear_register-requires-clause-next g e =
    let at = e.args.leaf.now in
    let r = e.requires.next in
    record {
      from = r.from;
      after = r.after;
      next = second_next at r.after r.next e.in_ok-counter.counter;
      here = rw e.counter_place.ensures.value at (e.in_ok-counter.ensures.plays.on r.from r.after
          (first_next at r.after r.next)) r.here;
    }

pub hear_register-requires-2-clause-next : goal.hear_register-requires-2-clause-next
hear_register-requires-2-clause-next g e =
    let at = e.args.leaf.now in
    let r = e.requires.next in
    let k = e.in_ok-counter.counter in
    record {
      from = r.from;
      after = r.after;
      next = third_next at r.after r.next k e.in_ok-a.a;
      here = e.in_ok-a.ensures.plays.on r.from r.after (second_next at r.after r.next k)
          (rw e.counter_place.ensures.value at (e.in_ok-counter.ensures.plays.on r.from r.after
          (first_next at r.after r.next)) r.here);
    }

pub hear_register-requires-3-clause-next : goal.hear_register-requires-3-clause-next
hear_register-requires-3-clause-next g e =
    let at = e.args.leaf.now in
    let r = e.requires.next in
    let k = e.in_ok-counter.counter in
    let a = e.in_ok-a.a in
    record {
      from = r.from;
      after = r.after;
      next = last_next at r.after r.next k a e.in_ok-b.b;
      here = e.in_ok-b.ensures.plays.on r.from r.after (third_next at r.after r.next k a)
          (e.in_ok-a.ensures.plays.on r.from r.after (second_next at r.after r.next k)
          (rw e.counter_place.ensures.value at (e.in_ok-counter.ensures.plays.on r.from r.after
          (first_next at r.after r.next)) r.here));
    }

pub hear_register-requires-4-clause-next : goal.hear_register-requires-4-clause-next
hear_register-requires-4-clause-next g e =
    let at = e.args.leaf.now in
    let r = e.requires.next in
    let k = e.in_ok-counter.counter in
    let a = e.in_ok-a.a in
    let b = e.in_ok-b.b in
    record {
      from = r.from;
      after = r.after;
      next = all_heard at r.after r.next k a b e.in_ok-c.c;
      here = e.in_ok-c.ensures.plays.on r.from r.after (last_next at r.after r.next k a b)
          (e.in_ok-b.ensures.plays.on r.from r.after (third_next at r.after r.next k a)
          (e.in_ok-a.ensures.plays.on r.from r.after (second_next at r.after r.next k)
          (rw e.counter_place.ensures.value at (e.in_ok-counter.ensures.plays.on r.from r.after
          (first_next at r.after r.next)) r.here)));
    }
