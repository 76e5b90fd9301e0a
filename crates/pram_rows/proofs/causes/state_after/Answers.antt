use Rattle.pram_step.proofs.LawAnswer.{conflict_ends}
use Rattle.pram_rows.proofs.causes.state_after.Goals as goal

-- a step that is against the rule is not gone past
pub returns-in-Disputed : goal.returns-in-Disputed
returns-in-Disputed c = λ reached.
    let found = rw c.in-Disputed.is at c.in_ok-state.ensures in
    conflict_ends c.args.job.now c.in-Disputed.fault c.args.steps found.0 found.1 reached
