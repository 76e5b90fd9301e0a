use Rattle.pardo_law.proofs.Answering.{runs_end_once}
use Rattle.pardo_law.proofs.laws.runs_end_once.Goals as goal

pub returns : goal.returns
returns c = runs_end_once
