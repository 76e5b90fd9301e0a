use Rattle.std.proofs.Common.{sym, ◌∙◌, ◌-◌}
use Rattle.walkx.specs.Parts.{compares_place}
use Rattle.walkx.proofs.compare.compare_data.Goals as goal

pub hear_part-requires-clause-next : goal.hear_part-requires-clause-next
hear_part-requires-clause-next g c =
    let at = c.args.leaf.now in
    let r = c.requires.next in
    record {
      from = r.from;
      after = r.after;
      next = λ value. compares_place at (c.args.place - 1) value r.after r.next;
      here = rw (sym c.is_none.ensures ∙ c.if-is_none.false) at r.here;
    }

pub compare_place-requires-clause-next : goal.compare_place-requires-clause-next
compare_place-requires-clause-next g c =
    let at = c.args.leaf.now in
    let r = c.requires.next in
    record {
      from = r.from;
      after = r.after;
      next = r.next;
      here = c.in_ok-value.ensures.plays.on r.from r.after
          (λ value. compares_place at (c.args.place - 1) value r.after r.next)
          (rw (sym c.is_none.ensures ∙ c.if-is_none.false) at r.here);
    }
