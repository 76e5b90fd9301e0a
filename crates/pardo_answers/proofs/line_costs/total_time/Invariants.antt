use Rattle.std.specs.Prelude.{◌≡◌, sum_by, take}
use Rattle.pardo_answers.proofs.line_costs.total_time.Given as goal

abbrev pub invariant-loop-line : goal.invariant-loop-line
invariant-loop-line l = l.time ≡ sum_by (λ cost. cost.time) (take l.line-index l.lines)
