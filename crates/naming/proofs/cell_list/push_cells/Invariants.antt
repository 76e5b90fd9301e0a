use Rattle.std.proofs.Common.{◌≡◌, ◌++◌, ◌-◌, ◌≤◌, vec_items}
use Rattle.std.specs.List.{range_with_len}
use Rattle.naming.proofs.cell_list.push_cells.Given as goal

-- those so far
abbrev pub invariant-loop-cell : goal.invariant-loop-cell
invariant-loop-cell l =
    let cells = l.fn.cells in
    record {
      so_far : vec_items l.all
          ≡ vec_items l.initial.all ++ range_with_len cells.first (l.cell - cells.first);
      few : l.cell - cells.first ≤ cells.end - cells.first;
    }
