use Rattle.stop_plan.proofs.Living.{random_is_plan}
use Rattle.stop_plan.proofs.random_laws.random_is_plan.Goals as goal

pub returns : goal.returns
returns c = random_is_plan
