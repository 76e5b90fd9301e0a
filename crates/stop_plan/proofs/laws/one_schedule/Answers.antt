use Rattle.stop_plan.proofs.LawFacts.{one_schedule}
use Rattle.stop_plan.proofs.laws.one_schedule.Goals as goal

pub returns : goal.returns
returns g c = one_schedule
