use Rattle.std.proofs.Common.{sym, ◌∙◌}
use Rattle.walkx.proofs.CellParts.{claims_it}
use Rattle.walkx.proofs.Turning.{moved}
use Rattle.walkx.proofs.claim.claim_data.Goals as goal

pub make-requires : goal.make-requires
make-requires g c =
    let at = c.args.leaf.now in
    let r = c.requires.next in
    rw c.claiming.ensures (
      at,
      record {
        from = r.from;
        after = r.after;
        next = λ found. r.next tt;
        here = moved (g.S.Steps.stands at) r.from _ _ _
            (claims_it at c.args.place r.after r.next
            (sym c.is_cell.ensures.value ∙ c.if-is_cell.true)) r.here;
      },
    )
