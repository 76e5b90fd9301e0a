use Rattle.pardo_law.proofs.Flattening.{flattening_keeps_runs}
use Rattle.pardo_law.proofs.laws.flattening_keeps_runs.Goals as goal

pub returns : goal.returns
returns c = flattening_keeps_runs
