use Rattle.std.proofs.Common.{sym, ◌∙◌}
use Rattle.walkx.proofs.Passing.{passed}
use Rattle.walkx.specs.WideParts.{store_owned}
use Rattle.walkx.proofs.wide_store.carry_priority.Goals as goal

pub claim_look-requires : goal.claim_look-requires
claim_look-requires g c = c.requires.cell.claim c.requires.rule

pub make-requires : goal.make-requires
make-requires g c =
    let at = c.args.leaf.now in
    let write = c.args.write in
    let r = c.requires.next in
    rw c.claim_look.ensures (
      at,
      record {
        from = r.from;
        after = r.after;
        next = λ found. store_owned at write found r.after r.next;
        here = r.here;
      },
    )

pub returns-in_err-found : goal.returns-in_err-found
returns-in_err-found g c =
    let at = c.args.leaf.now in
    let write = c.args.write in
    rw (passed c.from_residual.result _ c.from_residual.ensures.1) (record {
      plays = record {
        on = λ from after next here. rw c.claim_look.ensures at (c.in_err-found.ensures.on at from
            (λ found. store_owned at write found after next)) here;
      };
    })

pub returns-then-is_past : goal.returns-then-is_past
returns-then-is_past g c =
    let at = c.args.leaf.now in
    let write = c.args.write in
    record {
      plays = record {
        on = λ from after next here. rw (sym c.is_past.ensures ∙ c.if-is_past.true) at
            (rw c.claim_look.ensures at (c.in_ok-found.ensures.on at from
            (λ found. store_owned at write found after next)) here);
      };
    }

pub write_owned-requires-clause-next : goal.write_owned-requires-clause-next
write_owned-requires-clause-next g c =
    let at = c.args.leaf.now in
    let write = c.args.write in
    let r = c.requires.next in
    record {
      from = r.from;
      after = r.after;
      next = r.next;
      here = rw (sym c.is_past.ensures ∙ c.if-is_past.false) at
          (rw c.claim_look.ensures at (c.in_ok-found.ensures.on at r.from
          (λ found. store_owned at write found r.after r.next)) r.here);
    }

pub returns : goal.returns
returns g c =
    let at = c.args.leaf.now in
    let write = c.args.write in
    record {
      plays = record {
        on = λ from after next here. c.write_owned.ensures.plays.on from after next
            (rw (sym c.is_past.ensures ∙ c.if-is_past.false) at
            (rw c.claim_look.ensures at (c.in_ok-found.ensures.on at from
            (λ found. store_owned at write found after next)) here));
      };
    }
