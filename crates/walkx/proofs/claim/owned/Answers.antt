use Rattle.std.proofs.Common.{sym, ◌∙◌}
use Rattle.walkx.proofs.CellParts.{owns_it}
use Rattle.walkx.proofs.Turning.{moved}
use Rattle.walkx.specs.Parts.{after_claim}
use Rattle.walkx.proofs.claim.owned.Goals as goal

pub make-requires : goal.make-requires
make-requires g c =
    let at = c.args.leaf.now in
    let r = c.requires.next in
    rw c.claim_look.ensures (
      at,
      record {
        from = r.from;
        after = r.after;
        next = after_claim at c.args.place r.after r.next;
        here = moved (g.S.Steps.stands at) r.from _ _ _
            (owns_it at c.args.place r.after r.next
            (sym c.is_cell.ensures.value ∙ c.if-not-is_cell.false)) r.here;
      },
    )
