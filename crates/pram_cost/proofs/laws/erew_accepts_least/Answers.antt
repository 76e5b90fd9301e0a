use Rattle.pram_cost.proofs.LawModels.{erew_accepts}
use Rattle.pram_cost.proofs.laws.erew_accepts_least.Goals as goal

pub returns : goal.returns
returns c = erew_accepts
