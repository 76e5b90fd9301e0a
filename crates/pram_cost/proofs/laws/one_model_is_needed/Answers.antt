use Rattle.pram_cost.proofs.LawModels.{one_model}
use Rattle.pram_cost.proofs.laws.one_model_is_needed.Goals as goal

pub returns : goal.returns
returns c = one_model
