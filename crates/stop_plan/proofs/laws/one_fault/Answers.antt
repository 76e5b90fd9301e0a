use Rattle.stop_plan.proofs.LawFacts.{one_fault}
use Rattle.stop_plan.proofs.laws.one_fault.Goals as goal

pub returns : goal.returns
returns c = one_fault
