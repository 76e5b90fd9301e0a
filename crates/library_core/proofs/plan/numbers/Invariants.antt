use Rattle.std.proofs.Common.{◌≡◌, map, take}
use Rattle.library_core.specs.Plans.{row_told}
use Rattle.library_core.proofs.plan.numbers.Given as goal

abbrev pub invariant-loop-row : goal.invariant-loop-row
invariant-loop-row l = l.rows.items ≡ map row_told (take l.row-index l.plan.rows)
