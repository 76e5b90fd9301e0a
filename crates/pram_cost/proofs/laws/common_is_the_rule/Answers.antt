use Rattle.pram_cost.proofs.LawModels.{common_is_rule}
use Rattle.pram_cost.proofs.laws.common_is_the_rule.Goals as goal

pub returns : goal.returns
returns c = common_is_rule
