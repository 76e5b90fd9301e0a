-- What memory shows one processor of a state of the program.
use Rattle.std.specs.Prelude.{◌≡◌, ℕ, ◌+◌, ◌<◌, ◌≤◌, ◌^◌, length, Some, None}
use Rattle.pardo_program.specs.Program.{ProgramData}
use Rattle.pardo_flat.specs.Layouts.{ProgramLayoutData, private_cells, loop_cells, array_cells}
use Rattle.pardo_job.specs.Meaning.{Source, array_cell}

-- the places of arrays are the program's, and the processor's own cells hold what it has
pub record Sees (program : ProgramData) (layout : ProgramLayoutData) (source : Source)
    (memory : ℕ → ℕ)
    (i : ℕ) : Type 0 where
  pub is_processor : i < layout.procs
  pub few : layout.procs ≤ 65536
  pub fits : (cell : ℕ) → memory cell < 2 ^ 32
  pub loops : (nest : ℕ) → nest < layout.loops →
      memory ((loop_cells layout nest).base + i) ≡ source.loops nest
  pub privates : (x : ℕ) → x < layout.privates →
      memory ((private_cells layout x).base + i) ≡ source.privates x i
  pub within : (array index cell : ℕ) → array_cell program array index ≡ Some cell →
      (index < (array_cells layout array).len) × ((array_cells layout array).base + index ≡ cell)
      × (memory cell ≡ source.cells cell)
  pub outside : (array index : ℕ) → array < length layout.arrays →
      array_cell program array index ≡ None → (array_cells layout array).len ≤ index
