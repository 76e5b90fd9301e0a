use Rattle.stop_plan.proofs.LawFacts.{rows_name_workers}
use Rattle.stop_plan.proofs.laws.rows_name_workers.Goals as goal

pub returns : goal.returns
returns c = rows_name_workers
