use Rattle.walkx.proofs.taking.take_claim.Goals as goal

pub returns : goal.returns
returns g c = rw c.processor.ensures.value at c.claim_plainly.ensures
