use Rattle.pram_cost.proofs.Ending.{counted_cost}
use Rattle.pram_cost.proofs.cost.Tally.into_cost.Goals as goal

pub returns : goal.returns
returns c = counted_cost c.args.self c.args.conflict
