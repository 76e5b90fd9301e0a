use Rattle.walkx.specs.Parts.{claims_data}
use Rattle.walkx.proofs.claim.claim_cell.Goals as goal

pub claim_data-requires-clause-next : goal.claim_data-requires-clause-next
claim_data-requires-clause-next g c =
    let at = c.args.leaf.now in
    let r = c.requires.due in
    record {
      from = r.from;
      after = r.after;
      next = λ done. r.after;
      here = c.in_ok-place.ensures.plays.on r.from r.after
          (λ place. claims_data at place r.after (λ done. r.after)) r.here;
    }
