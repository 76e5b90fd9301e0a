use Rattle.pram_cost.proofs.LawOne.{one_cost}
use Rattle.pram_cost.proofs.laws.one_cost.Goals as goal

pub returns : goal.returns
returns c = one_cost
