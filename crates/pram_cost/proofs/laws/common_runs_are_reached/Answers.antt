use Rattle.pram_cost.proofs.LawModels.{common_runs}
use Rattle.pram_cost.proofs.laws.common_runs_are_reached.Goals as goal

pub returns : goal.returns
returns c = common_runs
