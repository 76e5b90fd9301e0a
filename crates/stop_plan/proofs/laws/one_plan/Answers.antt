use Rattle.stop_plan.proofs.LawFacts.{one_plan}
use Rattle.stop_plan.proofs.laws.one_plan.Goals as goal

pub returns : goal.returns
returns c = one_plan
