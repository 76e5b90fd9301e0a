use Rattle.std.proofs.Common.{sym, ◌∙◌}
use Rattle.walkx.proofs.CellParts.{compares_it}
use Rattle.walkx.proofs.Turning.{moved}
use Rattle.walkx.specs.Parts.{compares_own}
use Rattle.walkx.proofs.compare.compare_claim.Goals as goal

pub make-requires : goal.make-requires
make-requires g c =
    let at = c.args.leaf.now in
    let r = c.requires.next in
    rw c.claim_look.ensures (
      at,
      record {
        from = r.from;
        after = r.after;
        next = compares_own at r.after r.next;
        here = moved (g.S.Steps.stands at) r.from _ _ _
            (compares_it at c.args.place r.after r.next
            (sym c.is_cell.ensures.value ∙ c.if-not-is_cell.false)) r.here;
      },
    )

pub report_if-requires : goal.report_if-requires
report_if-requires g c =
    let at = c.args.leaf.now in
    let r = c.requires.next in
    rw (c.differs.ensures, c.claim_for.ensures) (record {
      next = record {
        from = r.from;
        after = r.after;
        next = r.next;
        here = rw c.claim_look.ensures at
            (c.in_ok-found.ensures.on at r.from (compares_own at r.after r.next))
            (moved (g.S.Steps.stands at) r.from _ _ _ (compares_it at c.args.place r.after r.next
            (sym c.is_cell.ensures.value ∙ c.if-not-is_cell.false)) r.here);
      };
    })
