use Rattle.std.proofs.Common.{arith, subst, ℕ}
use Rattle.pram_rows.proofs.Losing.{HasSearched, searched}
use Rattle.pram_rows.proofs.fates.first_lost.Goals as goal

pub returns : goal.returns
returns c =
    let job = c.args.standing.now.job.now in
    let made = c.args.standing.now.steps in
    searched job made c.loop-processor.lost c.limits_hold.ensures
    (subst (λ (k : ℕ). HasSearched job made k c.loop-processor.lost) (omega arith)
    c.loop-processor.invariant)
