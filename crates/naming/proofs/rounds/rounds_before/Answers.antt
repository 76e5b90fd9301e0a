use Rattle.std.proofs.Common.{subst, sym}
use Rattle.pram_step.specs.Runs.{IsReached}
use Rattle.pram_step.proofs.LawAnswer.{conflict_ends}
use Rattle.naming.proofs.rounds.rounds_before.Goals as goal

-- the steps before agree
pub returns-in-Disputed : goal.returns-in-Disputed
returns-in-Disputed c = λ reached within.
    let found = rw c.in-Disputed.is at c.in_ok-state.ensures in
    absurd (conflict_ends c.args.job.now c.in-Disputed.fault _ found.0 found.1
    (subst (IsReached c.args.job.now) (sym c.saturating_sub-made.ensures) reached))
