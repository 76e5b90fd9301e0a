-- Where the values of a program lie in the machine's cells: the shared arrays in their order, and
-- then rows of a cell for each processor.
use Rattle.std.specs.Prelude.{ℕ, ◌+◌, ◌-◌, ◌*◌, List, ◌++◌, length, map, max}
use Rattle.std.specs.Prelude.{replicate, slice_get, Some, None}
use Rattle.std.specs.List.{flat_map}
use Rattle.pram_job.specs.declared.instr.Array.{Array}
use Rattle.pardo_program.specs.Program.{ProgramData, ArrayData, shared_cells}

pub record ProgramLayoutData : Type 0 where
  -- the shared arrays
  pub arrays : List Array
  -- how many cells they have
  pub shared : ℕ
  pub procs : ℕ
  -- how many private variables there are
  pub privates : ℕ
  -- how many loops, and how many `if`s, are open at once
  pub loops : ℕ
  pub choices : ℕ

-- ---- rows

-- the cells of a row: one for each processor
abbrev pub row : ProgramLayoutData → ℕ → Array
row layout which = record { base = layout.shared + which * layout.procs; len = layout.procs }

abbrev pub private_cells : ProgramLayoutData → ℕ → Array
private_cells layout x = row layout x

-- those of the variable of the loop that stands in so many others
abbrev pub loop_cells : ProgramLayoutData → ℕ → Array
loop_cells layout nest = row layout (layout.privates + nest)

-- those of the mask of the lines that so many `if`s are open before, one at least
abbrev pub mask_cells : ProgramLayoutData → ℕ → Array
mask_cells layout depth = row layout (layout.privates + layout.loops + (depth - 1))

-- there is a cell at least
abbrev pub cell_count : ProgramLayoutData → ℕ
cell_count layout =
    max 1 (layout.shared + (layout.privates + layout.loops + layout.choices) * layout.procs)

abbrev pub array_cells : ProgramLayoutData → ℕ → Array
array_cells layout array = elim (slice_get layout.arrays array) [
  | None ↦ record { base = 0; len = 0 }
  | Some cells ↦ cells
]

-- ---- of a program

abbrev pub cells_of_array : ArrayData → Array
cells_of_array array = record { base = array.base; len = length array.start }

unfoldable pub program_layout : ProgramData → ProgramLayoutData
program_layout program = record {
  arrays = map cells_of_array program.arrays;
  shared = shared_cells program.arrays;
  procs = program.procs;
  privates = length program.privates;
  loops = program.loops;
  choices = program.choices;
}

-- the start values of the arrays and of the private variables
abbrev pub given_values : ProgramData → List ℕ
given_values program = flat_map (λ array. array.start) program.arrays
    ++ flat_map (λ variable. variable.start) program.privates

-- those of all cells; loops and masks start with 0
unfoldable pub start_values : ProgramData → List ℕ
start_values program = given_values program
    ++ replicate (cell_count (program_layout program) - length (given_values program)) 0
