use Rattle.std.proofs.Common.{◌≡◌, ◌++◌, drop, vec_items}
use Rattle.std.specs.List.{flat_map}
use Rattle.naming.specs.CellLists.{cells_from}
use Rattle.naming.proofs.cell_list.all_of.Given as goal

-- the cells so far and those to come are all cells
abbrev pub invariant-loop-cells : goal.invariant-loop-cells
invariant-loop-cells l =
    vec_items l.all ++ flat_map cells_from (drop l.cells-index l.named)
    ≡ flat_map cells_from l.named
