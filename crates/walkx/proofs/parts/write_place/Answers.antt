use Rattle.walkx.proofs.Passing.{passed}
use Rattle.std.proofs.Common.{sym, ◌∙◌}
use Rattle.walkx.specs.Parts.{writes_after}
use Rattle.walkx.proofs.parts.write_place.Goals as goal

pub hear_both-requires-clause-next : goal.hear_both-requires-clause-next
hear_both-requires-clause-next g c =
    let r = c.requires.next in
    record {
      from = r.from;
      after = r.after;
      next = writes_after c.args.leaf.now c.args.place c.args.value (r.next tt);
      here = r.here;
    }

pub returns-in_err-first : goal.returns-in_err-first
returns-in_err-first g c =
    rw (passed c.from_residual.result _ c.from_residual.ensures.1) (record {
      plays = record {
        on = λ from after next here.
            c.in_err-first.ensures.plays.on from after
            (writes_after c.args.leaf.now c.args.place c.args.value (next tt)) here;
      };
    })

pub returns-then-is_late : goal.returns-then-is_late
returns-then-is_late g c = record {
  plays = record {
    on = λ from after next here.
        rw (sym c.is_late.ensures ∙ c.if-is_late.true) at (c.in_ok-first.ensures.plays.on from after
        (writes_after c.args.leaf.now c.args.place c.args.value (next tt)) here);
  };
}

pub swap-requires : goal.swap-requires
swap-requires g c =
    let at = c.args.leaf.now in
    let r = c.requires.next in
    let loads = rw (sym c.is_late.ensures ∙ c.if-is_late.false) at (c.in_ok-first.ensures.plays.on
    r.from r.after (writes_after at c.args.place c.args.value (r.next tt)) r.here) in
    rw (c.older_swap-at.ensures c.args.place c.requires.word)
    (at, record { from = r.from; after = r.after; next = λ found. r.next tt; here = loads })

pub returns-in_err-swap : goal.returns-in_err-swap
returns-in_err-swap g c =
    let at = c.args.leaf.now in
    rw (passed c.from_residual-in_err-swap.result _ c.from_residual-in_err-swap.ensures.1) (record {
      plays = record {
        on = λ from after next here.
            let loads = rw (sym c.is_late.ensures ∙ c.if-is_late.false) at
            (c.in_ok-first.ensures.plays.on from after
            (writes_after at c.args.place c.args.value (next tt)) here) in
            rw (c.older_swap-at.ensures c.args.place c.requires.word)
            at (c.in_err-swap.ensures.on at from (λ found. next tt)) loads;
      };
    })

pub returns : goal.returns
returns g c =
    let at = c.args.leaf.now in
    record {
      plays = record {
        on = λ from after next here.
            let loads = rw (sym c.is_late.ensures ∙ c.if-is_late.false) at
            (c.in_ok-first.ensures.plays.on from after
            (writes_after at c.args.place c.args.value (next tt)) here) in
            rw (c.older_swap-at.ensures c.args.place c.requires.word)
            at (c.in_ok-swap.ensures.on at from (λ found. next tt)) loads;
      };
    }
