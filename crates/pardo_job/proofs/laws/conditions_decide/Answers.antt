use Rattle.pardo_job.proofs.Deciding.{conditions_decide}
use Rattle.pardo_job.proofs.laws.conditions_decide.Goals as goal

pub returns : goal.returns
returns c = conditions_decide
