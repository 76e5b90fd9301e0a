use Rattle.std.proofs.Common.{◌≡◌, ◌++◌, drop, string_bytes}
use Rattle.pram_streams.specs.Printed.{cell_lines}
use Rattle.pram_streams.proofs.print.push_cells.Given as goal

-- the lines so far and those to come are all lines
abbrev pub invariant-loop-cell : goal.invariant-loop-cell
invariant-loop-cell l =
    string_bytes l.text ++ cell_lines l.cell-counter (drop l.cell-counter l.values)
    ≡ string_bytes l.fn.text ++ cell_lines 0 l.values
