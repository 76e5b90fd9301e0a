use Rattle.std.proofs.Common.{sym, ◌∙◌}
use Rattle.walkx.proofs.Passing.{passed}
use Rattle.walkx.specs.Parts.{reads_after}
use Rattle.walkx.proofs.request.read_place.Goals as goal

pub hear_both-requires-clause-next : goal.hear_both-requires-clause-next
hear_both-requires-clause-next g c =
    let r = c.requires.next in
    record {
      from = r.from;
      after = r.after;
      next = reads_after c.args.leaf.now r.after r.next;
      here = r.here;
    }

pub returns-in_err-first : goal.returns-in_err-first
returns-in_err-first g c = rw (passed c.from_residual.result _ c.from_residual.ensures.1) (record {
  plays = record {
    on = λ from after next here.
        c.in_err-first.ensures.plays.on from after (reads_after c.args.leaf.now after next) here;
  };
})

pub returns-then-is_late : goal.returns-then-is_late
returns-then-is_late g c = record {
  plays = record {
    on = λ from after next here.
        rw (sym c.is_late.ensures ∙ c.if-is_late.true) at
        (c.in_ok-first.ensures.plays.on from after (reads_after c.args.leaf.now after next) here);
  };
}

pub returns-else-is_late : goal.returns-else-is_late
returns-else-is_late g c = rw c.newer_payload.ensures (record {
  plays = record {
    on = λ from after next here.
        rw (sym c.is_late.ensures ∙ c.if-is_late.false) at
        (c.in_ok-first.ensures.plays.on from after (reads_after c.args.leaf.now after next) here);
  };
})
