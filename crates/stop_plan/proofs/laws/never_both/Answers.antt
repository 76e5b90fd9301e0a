use Rattle.stop_plan.proofs.LawFacts.{never_both}
use Rattle.stop_plan.proofs.laws.never_both.Goals as goal

pub returns : goal.returns
returns c = never_both
