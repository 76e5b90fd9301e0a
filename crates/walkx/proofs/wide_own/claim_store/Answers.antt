use Rattle.std.proofs.Common.{◌≡◌, Some, sym, ◌∙◌}
use Rattle.pram_machine.specs.Turns.{request_of}
use Rattle.walkx.proofs.Claimed.{claims_some}
use Rattle.walkx.proofs.Turning.{moved}
use Rattle.walkx.specs.WideParts.{claimed_cell}
use Rattle.walkx.proofs.wide_own.claim_store.Goals as goal

pub make-requires : goal.make-requires
make-requires g c =
    let at = c.args.leaf.now in
    let r = c.requires.next in
    let request = request_of c.args.turn in
    let is : claimed_cell at.job.rule at.job request ≡ Some c.in-Some.cell =
    sym c.claimed.ensures.value ∙ c.in-Some.is in
    rw c.claiming.ensures (
      at,
      record {
        from = r.from;
        after = r.after;
        next = λ found. r.next tt;
        here = moved (g.S.Steps.stands at) r.from _ _ _
            (claims_some at request r.after r.next at.job.rule c.in-Some.cell
            c.in-Some.ensures.below is) r.here;
      },
    )
