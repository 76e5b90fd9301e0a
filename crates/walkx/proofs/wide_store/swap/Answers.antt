use Rattle.std.proofs.Common.{sym, ◌∙◌}
use Rattle.walkx.proofs.Passing.{passed}
use Rattle.walkx.specs.Parts.{differs_from}
use Rattle.walkx.specs.WideParts.{swaps_after}
use Rattle.walkx.proofs.wide_store.swap.Goals as goal

pub hear_both-requires-clause-next : goal.hear_both-requires-clause-next
hear_both-requires-clause-next g c =
    let r = c.requires.next in
    record {
      from = r.from;
      after = r.after;
      next = swaps_after c.args.leaf.now c.args.cell c.args.value r.next;
      here = r.here;
    }

pub returns-in_err-first : goal.returns-in_err-first
returns-in_err-first g c =
    rw (passed c.from_residual.result _ c.from_residual.ensures.1) (record {
      plays = record {
        on = λ from after next here.
            c.in_err-first.ensures.plays.on from after
            (swaps_after c.args.leaf.now c.args.cell c.args.value next) here;
      };
    })

pub returns-then-is_late : goal.returns-then-is_late
returns-then-is_late g c = rw c.either_differs.ensures (record {
  plays = record {
    on = λ from after next here.
        rw (sym c.is_late.ensures ∙ c.if-is_late.true) at (c.in_ok-first.ensures.plays.on from after
        (swaps_after c.args.leaf.now c.args.cell c.args.value next) here);
  };
})

pub swap-requires : goal.swap-requires
swap-requires g c =
    let at = c.args.leaf.now in
    let r = c.requires.next in
    let loads = rw (sym c.is_late.ensures ∙ c.if-is_late.false) at (c.in_ok-first.ensures.plays.on
    r.from r.after (swaps_after at c.args.cell c.args.value r.next) r.here) in
    rw (c.older_swap-at.ensures c.args.cell c.cell_word-word.ensures) (
      at,
      record {
        from = r.from;
        after = r.after;
        next = λ found. r.next (differs_from at c.args.value found);
        here = loads;
      },
    )

pub returns-in_err-found : goal.returns-in_err-found
returns-in_err-found g c =
    let at = c.args.leaf.now in
    rw (passed c.from_residual-in_err-found.result _ c.from_residual-in_err-found.ensures.1)
    (record {
      plays = record {
        on = λ from after next here.
            let loads = rw (sym c.is_late.ensures ∙ c.if-is_late.false) at
            (c.in_ok-first.ensures.plays.on from after
            (swaps_after at c.args.cell c.args.value next) here) in
            rw (c.older_swap-at.ensures c.args.cell c.cell_word-word.ensures)
            at (c.in_err-found.ensures.on at from
            (λ found. next (differs_from at c.args.value found))) loads;
      };
    })

pub returns : goal.returns
returns g c =
    let at = c.args.leaf.now in
    rw c.differs.ensures (record {
      plays = record {
        on = λ from after next here.
            let loads = rw (sym c.is_late.ensures ∙ c.if-is_late.false) at
            (c.in_ok-first.ensures.plays.on from after
            (swaps_after at c.args.cell c.args.value next) here) in
            rw (c.older_swap-at.ensures c.args.cell c.cell_word-word.ensures)
            at (c.in_ok-found.ensures.on at from
            (λ found. next (differs_from at c.args.value found))) loads;
      };
    })
