use Rattle.std.proofs.Common.{sym, ◌∙◌}
use Rattle.walkx.proofs.Passing.{passed}
use Rattle.walkx.specs.WideParts.{heard_after}
use Rattle.walkx.proofs.wide_request.hear_before.Goals as goal

pub hear_both-requires-clause-next : goal.hear_both-requires-clause-next
hear_both-requires-clause-next g c =
    let r = c.requires.next in
    record {
      from = r.from;
      after = r.after;
      next = heard_after c.args.leaf.now r.after r.next;
      here = r.here;
    }

pub returns-in_err-first : goal.returns-in_err-first
returns-in_err-first g c = rw (passed c.from_residual.result _ c.from_residual.ensures.1) (record {
  plays = record {
    on = λ from after next here. c.in_err-first.ensures.plays.on from after
        (heard_after c.args.leaf.now after next) here;
  };
})

pub returns-then-is_beyond : goal.returns-then-is_beyond
returns-then-is_beyond g c = record {
  plays = record {
    on = λ from after next here. rw (sym c.is_beyond.ensures ∙ c.if-is_beyond.true) at
        (c.in_ok-first.ensures.plays.on from after (heard_after c.args.leaf.now after next) here);
  };
}

pub returns-else-is_beyond : goal.returns-else-is_beyond
returns-else-is_beyond g c = rw c.word_before.ensures (record {
  plays = record {
    on = λ from after next here. rw (sym c.is_beyond.ensures ∙ c.if-is_beyond.false) at
        (c.in_ok-first.ensures.plays.on from after (heard_after c.args.leaf.now after next) here);
  };
})
