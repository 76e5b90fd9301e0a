use Rattle.std.proofs.Common.{◌≡◌, drop}
use Rattle.pardo_job.specs.Printed.{cell_text}
use Rattle.pardo_answers.proofs.text.push_cell.Given as goal

-- the arrays so far do not have the cell
abbrev pub invariant-loop-array : goal.invariant-loop-array
invariant-loop-array l = record {
  same : l.text.items ≡ l.fn.text.items;
  none : cell_text (drop l.array-index l.arrays) l.cell ≡ cell_text l.arrays l.cell;
}
