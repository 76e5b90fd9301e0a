use Rattle.pram_cost.proofs.LawModels.{crew_is_rule}
use Rattle.pram_cost.proofs.laws.crew_is_the_rule.Goals as goal

pub returns : goal.returns
returns c = crew_is_rule
