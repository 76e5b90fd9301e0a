use Rattle.std.proofs.Common.{subst}
use Rattle.pram_step.specs.Runs.{IsAnswer}
use Rattle.pardo_answers.proofs.CostsMade.{length_conflict, length_final}
use Rattle.pardo_answers.proofs.run.conflict_of.Goals as goal

pub returns-in-Final : goal.returns-in-Final
returns-in-Final c = λ job answer whole.
    length_final job _ (subst (IsAnswer job) c.in-Final.is answer)

pub returns-in-Conflict : goal.returns-in-Conflict
returns-in-Conflict c = λ job answer whole.
    length_conflict job _ (subst (IsAnswer job) c.in-Conflict.is answer) whole

pub returns-in-Unfinished : goal.returns-in-Unfinished
returns-in-Unfinished c = λ job answer whole.
    absurd (subst (IsAnswer job) c.in-Unfinished.is answer)
