use Rattle.pram_cost.proofs.LawModels.{crew_runs}
use Rattle.pram_cost.proofs.laws.crew_runs_are_reached.Goals as goal

pub returns : goal.returns
returns c = crew_runs
