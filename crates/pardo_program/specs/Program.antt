-- What a program is.
use Rattle.std.specs.Prelude.{ℕ, ◌*◌, Bool, true, false, List, length, sum_by}
use Rattle.std.specs.Prelude.{Option, Some, None}
use Rattle.pardo_program.specs.declared.arrays.Shape.{Shape}
use Rattle.pardo_program.specs.declared.arrays.Shape.TheVariants.{Scalar, Line as OneIndex, Table}
use Rattle.pram_job.specs.declared.instr.Rule.{Rule}
use Rattle.pardo_program.specs.declared.statement.Line.{Line}
use Rattle.text_lines.specs.Lines.{Word}

-- A shared array: its cells are those from `base` on, as many as it has start values, and row by
-- row where it has two indices: `width` is how many columns it then has. A scalar is an array of
-- one place.
pub record ArrayData : Type 0 where
  pub name : Word
  pub is_scalar : Bool
  pub width : Option ℕ
  pub base : ℕ
  pub start : List ℕ

-- how many cells arrays have
abbrev pub shared_cells : List ArrayData → ℕ
shared_cells arrays = sum_by (λ array. length array.start) arrays

-- how many places there are
abbrev pub places_of_shape : Shape → ℕ
places_of_shape Scalar = 1
places_of_shape (OneIndex places) = places
places_of_shape (Table rows columns) = rows * columns

abbrev pub is_scalar_shape : Shape → Bool
is_scalar_shape Scalar = true
is_scalar_shape _ = false

abbrev pub width_of : Shape → Option ℕ
width_of (Table rows columns) = Some columns
width_of _ = None

-- an array whose cells are those after the cells of these
abbrev pub array_after : List ArrayData → Word → Shape → List ℕ → ArrayData
array_after arrays word shape values = record {
  name = word;
  is_scalar = is_scalar_shape shape;
  width = width_of shape;
  base = shared_cells arrays;
  start = values;
}

-- a private variable, with a start value for each processor
pub record PrivateData : Type 0 where
  pub name : Word
  pub start : List ℕ

pub record ProgramData : Type 0 where
  pub rule : Rule
  pub procs : ℕ
  pub arrays : List ArrayData
  pub privates : List PrivateData
  -- how many loops, and how many `if`s, are open at once
  pub loops : ℕ
  pub choices : ℕ
  pub lines : List Line
