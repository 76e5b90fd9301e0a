use Rattle.pram_cost.proofs.LawModels.{stronger_accepts}
use Rattle.pram_cost.proofs.laws.stronger_models_accept.Goals as goal

pub returns : goal.returns
returns c = stronger_accepts
