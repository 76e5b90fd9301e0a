use Rattle.pram_cost.proofs.LawCosts.{steps_within}
use Rattle.pram_cost.proofs.laws.steps_with_are_steps.Goals as goal

pub returns : goal.returns
returns c = steps_within
