use Rattle.pardo_job.proofs.Evaluating.{expressions_are_evaluated}
use Rattle.pardo_job.proofs.laws.expressions_are_evaluated.Goals as goal

pub returns : goal.returns
returns c = expressions_are_evaluated
