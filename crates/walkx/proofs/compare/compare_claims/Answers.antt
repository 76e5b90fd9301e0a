use Rattle.walkx.specs.Parts.{compares_claim}
use Rattle.walkx.proofs.compare.compare_claims.Goals as goal

pub compare_claim-requires-clause-next : goal.compare_claim-requires-clause-next
compare_claim-requires-clause-next g c =
    let at = c.args.leaf.now in
    let r = c.requires.due in
    record {
      from = r.from;
      after = r.after;
      next = λ done. r.after;
      here = c.in_ok-place.ensures.plays.on r.from r.after
          (λ place. compares_claim at place r.after (λ done. r.after)) r.here;
    }
