use Rattle.std.proofs.Common.{◌≡◌, ◌++◌, drop, string_bytes}
use Rattle.pram_rows.specs.Cells.{cell_records}
use Rattle.pram_rows.proofs.cells.push_cells.Given as goal

-- the records so far and those to come are all records
abbrev pub invariant-loop-cell : goal.invariant-loop-cell
invariant-loop-cell l =
    string_bytes l.text ++ cell_records l.cell-counter (drop l.cell-counter l.values)
    ≡ string_bytes l.fn.text ++ cell_records 0 l.values
