use Rattle.std.proofs.Common.{◌≡◌, map, take}
use Rattle.pardo_program.specs.Program.{shared_cells}
use Rattle.pardo_flat.specs.Layouts.{cells_of_array}
use Rattle.pardo_flat.proofs.layout.Layout.of.Given as goal

abbrev pub invariant-loop-array : goal.invariant-loop-array
invariant-loop-array l = record {
  shared : l.shared ≡ shared_cells (take l.array-index l.program.arrays);
  arrays : l.arrays.items ≡ map cells_of_array (take l.array-index l.program.arrays);
}
