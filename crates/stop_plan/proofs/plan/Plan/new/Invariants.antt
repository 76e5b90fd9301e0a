use Rattle.stop_plan.proofs.RowFaults.{RowsJudged}
use Rattle.stop_plan.proofs.plan.Plan.new.Given as goal

abbrev pub invariant-loop-row : goal.invariant-loop-row
invariant-loop-row l = RowsJudged l.workers l.number l.row-index l.rows l.draft
