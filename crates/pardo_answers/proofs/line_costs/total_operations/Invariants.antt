use Rattle.std.specs.Prelude.{◌≡◌, sum_by, take}
use Rattle.pardo_answers.proofs.line_costs.total_operations.Given as goal

abbrev pub invariant-loop-line : goal.invariant-loop-line
invariant-loop-line l = l.operations ≡ sum_by (λ cost. cost.operations) (take l.line-index l.lines)
