use Rattle.stop_plan.proofs.LawFacts.{plan_or_fault}
use Rattle.stop_plan.proofs.laws.plan_or_fault.Goals as goal

pub returns : goal.returns
returns c = plan_or_fault
