use Rattle.pardo_law.proofs.Placing.{straight_code_runs}
use Rattle.pardo_law.proofs.laws.straight_code_runs.Goals as goal

pub returns : goal.returns
returns c = straight_code_runs
