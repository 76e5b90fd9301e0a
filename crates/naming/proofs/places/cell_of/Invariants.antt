use Rattle.std.proofs.Common.{◌≢◌, ◌≤◌, ◌<◌, ℕ}
use Rattle.pardo_job.specs.Printed.{cell_text}
use Rattle.naming.proofs.places.cell_of.Given as goal

-- no cell so far has the place
abbrev pub invariant-loop-cell : goal.invariant-loop-cell
invariant-loop-cell l = (cell : ℕ) → l.first ≤ cell → cell < l.cell →
    cell_text l.arrays cell ≢ l.place
