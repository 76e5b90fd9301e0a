-- The cells that a text names, parted by commas: by their numbers, as places of a program, or all
-- those of an array.
use Rattle.std.specs.Prelude.{◌≡◌, ◌⊎◌, ◌+◌, ◌-◌, ◌<◌, ◌≤◌, ℕ, Bool, not, ◌&&◌}
use Rattle.std.specs.Prelude.{if◌then◌else◌, List, [], ◌∷◌, length, Option, None, Some, ⊤}
use Rattle.std.specs.List.{flat_map, range_with_len}
use Rattle.std.specs.Str.{bytes_eq}
use Rattle.command_data.specs.CellLists.{SpellsCell, cell_listed, part_at}
use Rattle.pram_job.specs.Job.{JobData}
use Rattle.pardo_program.specs.Program.{ArrayData}
use Rattle.pardo_job.specs.Printed.{cell_text}
use Rattle.naming.specs.declared.places.Stretch.{Stretch}
use Rattle.naming.specs.Names.{AreNames, NamingData}
use Rattle.refusals.specs.declared.fault.CommandFault.{CommandFault}
use Rattle.refusals.specs.declared.fault.CommandFault.TheVariants.{OutsideCell, OutsidePlace}
use Rattle.refusals.specs.declared.fault.CommandFault.TheVariants.{Memory}

-- the program's answers tell the cell so: `A[3]`, or a scalar by its name
abbrev pub IsPlaceOf : Option NamingData → ℕ → List ℕ → Type 0
IsPlaceOf None cell part = ⊥
IsPlaceOf (Some naming) cell part =
    (1 ≤ length part) × (cell_text naming.program.arrays cell ≡ part)

-- whether it is an array of this name, and no scalar
abbrev pub is_array_named : List ℕ → ArrayData → Bool
is_array_named name array = not array.is_scalar && bytes_eq array.name name

-- the array of this name
abbrev pub array_named : List ArrayData → List ℕ → Option ArrayData
array_named [] name = None
array_named (array ∷ arrays) name =
    if is_array_named name array then Some array else array_named arrays name

-- the cells of an array
abbrev pub AreAllOf : ArrayData → Stretch → Type 0
AreAllOf array cells = (cells.first ≡ array.base) × (cells.end ≡ array.base + length array.start)

-- the cells of the array of this name
abbrev pub AreOfArray : List ArrayData → List ℕ → Stretch → Type 0
AreOfArray arrays name cells =
    (array : ArrayData) × (array_named arrays name ≡ Some array) × AreAllOf array cells

abbrev pub AreAnArrays : Option NamingData → List ℕ → Stretch → Type 0
AreAnArrays None part cells = ⊥
AreAnArrays (Some naming) part cells = AreOfArray naming.program.arrays part cells

abbrev pub IsAlone : ℕ → Stretch → Type 0
IsAlone cell cells = (cells.first ≡ cell) × (cells.end ≡ cell + 1)

-- a word names the cell whose place it is, or all cells of an array
abbrev pub IsStretch : Option NamingData → List ℕ → Stretch → Type 0
IsStretch names part cells =
    ((cell : ℕ) × IsPlaceOf names cell part × IsAlone cell cells) ⊎ AreAnArrays names part cells

-- A number names the cell of that number, and another part places.
abbrev pub NamesCells : Option NamingData → List ℕ → Stretch → Type 0
NamesCells names part cells = (SpellsCell part × IsAlone (cell_listed part) cells)
    ⊎ ((¬ SpellsCell part) × IsStretch names part cells)

-- cells that follow one another, for each part
abbrev pub AreStretches : Option NamingData → List (List ℕ) → List Stretch → Type 0
AreStretches names [] [] = ⊤
AreStretches names (part ∷ parts) (cells ∷ named) =
    NamesCells names part cells × AreStretches names parts named
AreStretches names _ _ = ⊥

abbrev pub cells_from : Stretch → List ℕ
cells_from cells = range_with_len cells.first (cells.end - cells.first)

-- the cells that the parts name, in order
abbrev pub AreCellsOf : Option NamingData → List (List ℕ) → List ℕ → Type 0
AreCellsOf names parts cells =
    (named : List Stretch) × AreStretches names parts named × (cells ≡ flat_map cells_from named)

-- the job has the cells that the part names
abbrev pub HasCells : Option NamingData → JobData → List ℕ → Type 0
HasCells names job part =
    (cells : Stretch) × NamesCells names part cells × (cells.end ≤ job.cells)

-- This is the first of the parts that names no cells of the job.
pub record IsFirstOutside (names : Option NamingData) (job : JobData) (parts : List (List ℕ))
    (at : ℕ) : Type 0 where
  pub within : at < length parts
  pub before : (k : ℕ) → k < at → HasCells names job (part_at parts k)
  pub here : ¬ HasCells names job (part_at parts at)

-- The fault names the first of the parts that is no cell of the job: by the number of the cell, or
-- else by that of the part.
abbrev pub IsOutside : Option NamingData → JobData → List (List ℕ) → CommandFault → Type 0
IsOutside names job parts (OutsideCell cell) = (at : ℕ) × IsFirstOutside names job parts at
    × SpellsCell (part_at parts at) × (cell ≡ cell_listed (part_at parts at))
IsOutside names job parts (OutsidePlace at) =
    IsFirstOutside names job parts at × (¬ SpellsCell (part_at parts at))
IsOutside names job parts Memory = ⊤
IsOutside names job parts _ = ⊥

-- The text is told by names by which this fault says the first of the parts that names no cell.
pub record LacksCell (parts : List (List ℕ)) (job_text : List ℕ) (job : JobData)
    (fault : CommandFault) : Type 0 where
  pub names : Option NamingData
  pub are_names : AreNames job_text job names
  pub outside : IsOutside names job parts fault
