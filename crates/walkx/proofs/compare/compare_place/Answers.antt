use Rattle.walkx.specs.Parts.{reports_if, either_differs}
use Rattle.walkx.proofs.compare.compare_place.Goals as goal

pub hear_both-requires-clause-next : goal.hear_both-requires-clause-next
hear_both-requires-clause-next g c =
    let at = c.args.leaf.now in
    let r = c.requires.next in
    record {
      from = r.from;
      after = r.after;
      next = λ w. reports_if at (either_differs at c.args.value w) r.after r.next;
      here = r.here;
    }

pub report_if-requires : goal.report_if-requires
report_if-requires g c =
    let at = c.args.leaf.now in
    let r = c.requires.next in
    rw c.either_differs.ensures (record {
      next = record {
        from = r.from;
        after = r.after;
        next = r.next;
        here = c.in_ok-first.ensures.plays.on r.from r.after
            (λ w. reports_if at (either_differs at c.args.value w) r.after r.next) r.here;
      };
    })

pub returns : goal.returns
returns g c =
    let at = c.args.leaf.now in
    record {
      plays = record {
        on = λ from after next here.
            rw c.either_differs.ensures at (c.report_if.ensures.plays.on from after next)
            (c.in_ok-first.ensures.plays.on from after
            (λ w. reports_if at (either_differs at c.args.value w) after next) here);
      };
    }
