use Rattle.pram_machine.specs.Instructions.{value_part}
use Rattle.walkx.proofs.Passing.{passed}
use Rattle.walkx.specs.Parts.{raises_part}
use Rattle.walkx.proofs.request.raise_request.Goals as goal

pub raise_part-requires-clause-next : goal.raise_part-requires-clause-next
raise_part-requires-clause-next g c =
    let at = c.args.leaf.now in
    let r = c.requires.due in
    rw c.place_part.ensures (record {
      from = r.from;
      after = r.after;
      next = λ one. raises_part at 1 (value_part c.args.request) r.after
          (λ two. raises_part at 2 c.args.request.next r.after (λ three. r.after));
      here = r.here;
    })

pub returns-in_err-raise_part : goal.returns-in_err-raise_part
returns-in_err-raise_part g c =
    let at = c.args.leaf.now in
    rw (passed c.from_residual.result _ c.from_residual.ensures.1) (record {
      ends = record {
        on = λ from after here.
            rw c.place_part.ensures at (c.in_err-raise_part.ensures.plays.on from after (λ one.
            raises_part at 1 (value_part c.args.request) after
            (λ two. raises_part at 2 c.args.request.next after (λ three. after)))) here;
      };
    })

pub raise_part-requires-2-clause-next : goal.raise_part-requires-2-clause-next
raise_part-requires-2-clause-next g c =
    let at = c.args.leaf.now in
    let r = c.requires.due in
    let first = rw c.place_part.ensures at (c.in_ok-raise_part.ensures.plays.on r.from r.after
    (λ one. raises_part at 1 (value_part c.args.request) r.after
    (λ two. raises_part at 2 c.args.request.next r.after (λ three. r.after)))) r.here in
    rw c.value_part.ensures (record {
      from = r.from;
      after = r.after;
      next = λ two. raises_part at 2 c.args.request.next r.after (λ three. r.after);
      here = first;
    })

pub returns-in_err-raise_part-2 : goal.returns-in_err-raise_part-2
returns-in_err-raise_part-2 g c =
    let at = c.args.leaf.now in
    rw (passed c.from_residual-in_err-raise_part-2.result _
    c.from_residual-in_err-raise_part-2.ensures.1) (record {
      ends = record {
        on = λ from after here.
            let first = rw c.place_part.ensures at (c.in_ok-raise_part.ensures.plays.on from after
            (λ one. raises_part at 1 (value_part c.args.request) after
            (λ two. raises_part at 2 c.args.request.next after (λ three. after)))) here in
            rw c.value_part.ensures at (c.in_err-raise_part-2.ensures.plays.on from after
            (λ two. raises_part at 2 c.args.request.next after (λ three. after))) first;
      };
    })

pub raise_part-requires-3-clause-next : goal.raise_part-requires-3-clause-next
raise_part-requires-3-clause-next g c =
    let at = c.args.leaf.now in
    let r = c.requires.due in
    let first = rw c.place_part.ensures at (c.in_ok-raise_part.ensures.plays.on r.from r.after
    (λ one. raises_part at 1 (value_part c.args.request) r.after
    (λ two. raises_part at 2 c.args.request.next r.after (λ three. r.after)))) r.here in
    let second = rw c.value_part.ensures at (c.in_ok-raise_part-2.ensures.plays.on r.from r.after
    (λ two. raises_part at 2 c.args.request.next r.after (λ three. r.after))) first in
    record { from = r.from; after = r.after; next = λ three. r.after; here = second }

pub returns : goal.returns
returns g c =
    let at = c.args.leaf.now in
    record {
      ends = record {
        on = λ from after here.
            let first = rw c.place_part.ensures at (c.in_ok-raise_part.ensures.plays.on from after
            (λ one. raises_part at 1 (value_part c.args.request) after
            (λ two. raises_part at 2 c.args.request.next after (λ three. after)))) here in
            let second = rw c.value_part.ensures at (c.in_ok-raise_part-2.ensures.plays.on from
            after (λ two. raises_part at 2 c.args.request.next after (λ three. after))) first in
            c.raise_part-3.ensures.plays.on from after (λ three. after) second;
      };
    }
