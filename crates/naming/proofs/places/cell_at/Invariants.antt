use Rattle.std.proofs.Common.{◌≡◌, ◌<◌, ℕ, drop}
use Rattle.pardo_job.specs.Printed.{cell_text}
use Rattle.naming.proofs.places.cell_at.Given as goal

-- no array so far tells a cell so
abbrev pub invariant-loop-array : goal.invariant-loop-array
invariant-loop-array l = (cell : ℕ) → cell < l.count → cell_text l.arrays cell ≡ l.place →
    cell_text (drop l.array-index l.arrays) cell ≡ l.place
