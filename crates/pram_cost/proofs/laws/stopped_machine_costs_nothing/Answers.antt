use Rattle.pram_cost.proofs.LawCosts.{stopped_costs}
use Rattle.pram_cost.proofs.laws.stopped_machine_costs_nothing.Goals as goal

pub returns : goal.returns
returns c = stopped_costs
