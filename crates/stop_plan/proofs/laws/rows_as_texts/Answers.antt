use Rattle.stop_plan.proofs.RowFaults.{rows_as_texts}
use Rattle.stop_plan.proofs.laws.rows_as_texts.Goals as goal

pub returns : goal.returns
returns c = rows_as_texts
