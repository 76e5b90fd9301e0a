-- Three registers are enough for what is left of an expression, and for its pieces.
use Rattle.std.specs.Prelude.{◌≡◌, ℕ, ◌+◌, ◌≤◌, Bool, true, [], slice_get, Some}
use Rattle.std.specs.List.{All}
use Rattle.pardo_program.specs.declared.statement.Line.{Line}
use Rattle.pardo_program.specs.Expression.{Tree}
use Rattle.pardo_program.specs.Lawful.{IsProgram}
use Rattle.pardo_program.specs.Program.{ProgramData}
use Rattle.pardo_flat.specs.Flat.{fits, flat, shape_of, split}
use Rattle.pardo_flat.specs.Layouts.{ProgramLayoutData}
use Rattle.pardo_job.specs.Compiled.{AreLevel}
use Rattle.pardo_job.specs.Operations.{is_shallow}
use Rattle.pardo_job.specs.Values.{value_code}

-- three registers are enough for the code of an expression that needs no more
abbrev pub RoomIsEnough : Type 0
RoomIsEnough = (layout : ProgramLayoutData) (tree : Tree) (at : ℕ) →
    at + (shape_of tree).need ≤ 3 → is_shallow (value_code layout at tree) ≡ true

-- they are enough for all pieces of an expression, and for what is left of it
abbrev pub PiecesAreSmall : Type 0
PiecesAreSmall = (common : Bool) (t : ℕ) (tree : Tree) →
    All (λ piece. (shape_of piece).need ≤ 3) (split common t tree).0
    × ((shape_of (split common t tree).1).need ≤ 3)

-- Where they are enough for the expression, nothing is split off.
abbrev pub SmallIsWhole : Type 0
SmallIsWhole = (common : Bool) (t : ℕ) (tree : Tree) → (shape_of tree).need ≤ 3 →
    split common t tree ≡ ([], tree)

-- They are enough for each line of the flat program.
abbrev pub FlatLinesAreLevel : Type 0
FlatLinesAreLevel = (program : ProgramData) → AreLevel (flat program)

-- A program of which each line fits is flat already.
abbrev pub FittingIsFlat : Type 0
FittingIsFlat = (program : ProgramData) → IsProgram program →
    ((j : ℕ) (line : Line) → slice_get program.lines j ≡ Some line →
    fits line.statement ≡ true) →
    flat program ≡ program
