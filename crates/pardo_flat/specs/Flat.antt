-- The flat program. Where three registers are too few for a line, hidden lines come before it, with
-- its number and depth. They give parts of its expressions to variables without a name, which
-- follow those of the text: to private ones; but in a line of a loop, which all processors go by,
-- to variables of loops.
use Rattle.std.specs.Prelude.{◌≡◌, ℕ, ◌+◌, ◌-◌, ◌*◌, ◌<◌, Some, slice_get, Bool}
use Rattle.std.specs.Prelude.{true, false, not, ◌&&◌, ◌||◌, nat_le}
use Rattle.std.specs.Prelude.{if◌then◌else◌, max, min}
use Rattle.std.specs.Prelude.{List, [], ◌∷◌, ◌++◌, length, replicate, take, sum_by}
use Rattle.std.specs.List.{flat_map}
use Rattle.pardo_program.specs.declared.operation.Op.{Op}
use Rattle.pardo_program.specs.declared.operation.Op.TheVariants.{Sub, Div, Rem, Shl, Shr}
use Rattle.pardo_program.specs.declared.operation.Op.TheVariants.{BitAnd, BitOr, Eq, Ne, Or}
use Rattle.pardo_program.specs.declared.operation.Op.TheVariants.{Lt, Le, Gt, Ge, And, Min, Max}
use Rattle.pardo_program.specs.declared.operation.Op.TheVariants.{Within}
use Rattle.pardo_program.specs.declared.statement.Line.{Line}
use Rattle.pardo_program.specs.declared.statement.Statement.{Statement}
use Rattle.pardo_program.specs.declared.statement.Statement.TheVariants.{Assign, If}
use Rattle.pardo_program.specs.declared.statement.Statement.TheVariants.{While, EndWhile, For}
use Rattle.pardo_program.specs.declared.statement.Statement.TheVariants.{EndFor}
use Rattle.pardo_program.specs.declared.statement.Target.TheVariants.{Private, Array as Shared}
use Rattle.pardo_program.specs.Expression.{Tree, number, own, loop, private, place, apply}
use Rattle.pardo_program.specs.declared.limits.TheConstants.{MAX_CELLS}
use Rattle.pardo_program.specs.Program.{ProgramData, PrivateData, shared_cells}
use Rattle.pardo_flat.specs.Statements.{statement_at}

-- ---- registers

-- What the code of an expression needs: whether its value is computed, which takes a register;
-- whether it is a number; whether it is a truth; and how many registers it uses, 4 standing for
-- more than three.
pub record ShapeData : Type 0 where
  pub is_computed : Bool
  pub is_number : Bool
  pub is_truth : Bool
  pub need : ℕ

abbrev pub computed_shape : Bool → ℕ → ShapeData
computed_shape truth need =
    record { is_computed = true; is_number = false; is_truth = truth; need = min 4 need }

-- how many registers are taken for its value
abbrev pub registers_taken : ShapeData → ℕ
registers_taken shape = if shape.is_computed then 1 else 0

-- a number that stands first comes into a register of its own
abbrev pub first_need : ShapeData → ShapeData → ℕ
first_need first second = if first.is_number && second.is_computed then 2 else 1

-- how many registers an operation uses from that of its first operand on
unfoldable pub operation_need : Op → ShapeData → ShapeData → ℕ
operation_need Sub first second = first_need first second
operation_need Div first second = first_need first second
operation_need Rem first second = first_need first second
operation_need Shl first second = first_need first second
operation_need Shr first second = first_need first second
operation_need Lt first second = first_need first second
operation_need Ge first second = first_need first second
operation_need Gt first second = first_need second first
operation_need Le first second = first_need second first
operation_need And first second =
    if (first.is_truth && second.is_truth) || (first.is_computed && second.is_computed)
    then 1 else 2
operation_need Min first second = if first.is_computed && second.is_computed then 3 else 2
operation_need Max first second = if first.is_computed && second.is_computed then 3 else 2
operation_need Within first second = if first.is_computed || first.is_number then 2 else 1
operation_need _ first second = 1

-- The value of the operation is 0 or 1.
unfoldable pub gives_truth : Op → Bool → Bool
gives_truth Eq are_truths = true
gives_truth Ne are_truths = true
gives_truth Lt are_truths = true
gives_truth Le are_truths = true
gives_truth Gt are_truths = true
gives_truth Ge are_truths = true
gives_truth And are_truths = true
gives_truth Or are_truths = true
gives_truth BitAnd are_truths = are_truths
gives_truth BitOr are_truths = are_truths
gives_truth _ are_truths = false

unfoldable pub applied_shape : Op → ShapeData → ShapeData → ShapeData
applied_shape op first second = computed_shape (gives_truth op (first.is_truth && second.is_truth))
    (max first.need (max (registers_taken first + second.need) (operation_need op first second)))

abbrev pub shape_of : Tree → ShapeData
shape_of (number k) =
    record { is_computed = false; is_number = true; is_truth = false; need = 0 }
shape_of own = record { is_computed = false; is_number = false; is_truth = false; need = 0 }
shape_of (loop nest) = computed_shape false 1
shape_of (private x) = computed_shape false 1
shape_of (place array index) = computed_shape false (max 1 (shape_of index).need)
shape_of (apply op first second) = applied_shape op (shape_of first) (shape_of second)

-- three registers are enough for an expression, of which so many are taken
abbrev pub has_room : ℕ → ShapeData → Bool
has_room at shape = nat_le (at + shape.need) 3

-- ---- expressions

-- what a piece is given to: a variable of a loop where it is common to all processors
abbrev pub variable : Bool → ℕ → Tree
variable true t = loop t
variable false t = private t

-- The pieces of two expressions, and what is left of these. The second one is the last piece where
-- it has no room beside the first. Pieces are given to the variables from the number t on.
abbrev pub beside : Bool → ℕ → Bool → List Tree × Tree → List Tree × Tree → List Tree × Tree × Tree
beside common t room first second =
    if room then (first.0 ++ second.0, first.1, second.1)
    else (
      first.0 ++ (second.0 ++ second.1 ∷ []),
      first.1,
      variable common (t + length first.0 + length second.0),
    )

-- where the first is computed, the second one needs room beside it
abbrev pub is_beside : Op → ShapeData → ShapeData → Bool
is_beside op first second = not first.is_computed || has_room 0 (applied_shape op first second)

-- the pieces of an expression, and what is left of it
abbrev pub split : Bool → ℕ → Tree → List Tree × Tree
split common t (place array index) =
    let inner = split common t index in (inner.0, place array inner.1)
split common t (apply op first second) =
    let left = split common t first in
    let parts = beside common t (is_beside op (shape_of left.1) (shape_of second)) left
    (split common (t + length left.0) second) in
    (parts.0, apply op parts.1 parts.2)
split common t tree = ([], tree)

-- ---- lines

-- the pieces of the value and of the index, and what is left of these
abbrev pub split_store : ℕ → Tree → Tree → List Tree × Tree × Tree
split_store t tree index =
    let value = split false t tree in
    beside false t (has_room (registers_taken (shape_of value.1)) (shape_of index)) value
    (split false (t + length value.0) index)

-- those of the last bound of a `for`, which has a register less
abbrev pub split_last : ℕ → Tree → List Tree × Tree
split_last t tree =
    let last = split true t tree in
    if has_room 1 (shape_of last.1) then last
    else (last.0 ++ last.1 ∷ [], loop (t + length last.0))

-- and of both bounds, those of the last one first
abbrev pub split_bounds : ℕ → Tree → Tree → List Tree × Tree × Tree
split_bounds t first last =
    let high = split_last t last in
    let low = split true (t + length high.0) first in (high.0 ++ low.0, low.1, high.1)

-- the pieces of a line, and what is left of it
abbrev pub split_statement : ProgramData → Statement → List Tree × Statement
split_statement program (Assign (Private x) tree) =
    let parts = split false (length program.privates) tree in (parts.0, Assign (Private x) parts.1)
split_statement program (Assign (Shared array index) tree) =
    let parts = split_store (length program.privates) tree index in
    (parts.0, Assign (Shared array parts.2) parts.1)
split_statement program (If tree) =
    let parts = split false (length program.privates) tree in (parts.0, If parts.1)
split_statement program (While tree end) =
    let parts = split true program.loops tree in (parts.0, While parts.1 end)
split_statement program (For nest first last up end) =
    let parts = split_bounds program.loops first last in
    (parts.0, For nest parts.1 parts.2 up end)
split_statement program statement = ([], statement)

-- three registers are enough for it
abbrev pub fits : Statement → Bool
fits (Assign (Private x) tree) = has_room 0 (shape_of tree)
fits (Assign (Shared array index) tree) =
    has_room 0 (shape_of tree) && has_room (registers_taken (shape_of tree)) (shape_of index)
fits (If tree) = has_room 0 (shape_of tree)
fits (While tree end) = has_room 0 (shape_of tree)
fits (For nest first last up end) = has_room 0 (shape_of first) && has_room 1 (shape_of last)
fits statement = true

-- then nothing is split off
abbrev pub split_off : ProgramData → Statement → List Tree × Statement
split_off program statement =
    if fits statement then ([], statement) else split_statement program statement

-- the pieces of the last bound of a `for`
abbrev pub last_pieces : ProgramData → Statement → List Tree
last_pieces program (For nest first last up end) = (split_last program.loops last).0
last_pieces program statement = []

-- its `end` asks for them again, if it has some
abbrev pub bound_pieces : ProgramData → Statement → List Tree
bound_pieces program opener = if fits opener then [] else last_pieces program opener

abbrev pub statement_parts : ProgramData → Statement → List Tree × Statement
statement_parts program (EndFor begin) =
    (bound_pieces program (statement_at program begin), EndFor begin)
statement_parts program statement = split_off program statement

abbrev pub line_parts : ProgramData → Line → List Tree × Statement
line_parts program line = statement_parts program line.statement

abbrev pub pieces_of : ProgramData → Line → List Tree
pieces_of program line = (line_parts program line).0

-- whether its pieces are common to all processors
abbrev pub is_for_all : Statement → Bool
is_for_all (While tree end) = true
is_for_all (For nest first last up end) = true
is_for_all (EndFor begin) = true
is_for_all statement = false

-- the number of the variable of its first piece
abbrev pub base_of : ProgramData → Statement → ℕ
base_of program statement =
    if is_for_all statement then program.loops else length program.privates

-- how many lines there are for it
abbrev pub flat_size : ProgramData → Line → ℕ
flat_size program line = length (pieces_of program line) + 1

-- where the first of the lines for the line j stands, and where the last
unfoldable pub first_flat_of : ProgramData → ℕ → ℕ
first_flat_of program j = sum_by (flat_size program) (take j program.lines)

abbrev pub last_of : ProgramData → ℕ → ℕ
last_of program j = first_flat_of program (j + 1) - 1

-- the lines that loops name stand elsewhere
abbrev pub moved_statement : ProgramData → Statement → Statement
moved_statement program (While tree end) = While tree (last_of program end)
moved_statement program (EndWhile begin) = EndWhile (first_flat_of program begin)
moved_statement program (For nest first last up end) = For nest first last up (last_of program end)
moved_statement program (EndFor begin) = EndFor (last_of program begin)
moved_statement program statement = statement

-- The line that gives a piece to a variable. To that of a loop it is given by the first line of one
-- that counts down to 0: so this loop has a turn, and its `end` is never gone to.
abbrev pub giving : Bool → ℕ → ℕ → Tree → Statement
giving true end t piece = For t piece (number 0) false end
giving false end t piece = Assign (Private t) piece

-- the hidden lines of these pieces
abbrev pub hidden : ℕ → Line → ℕ → List Tree → List Line
hidden end line t [] = []
hidden end line t (piece ∷ pieces) =
    record line { statement = giving (is_for_all line.statement) end t piece }
    ∷ hidden end line (t + 1) pieces

abbrev pub last_line : ProgramData → Line → Line
last_line program line =
    record line { statement = moved_statement program (line_parts program line).1 }

unfoldable pub lines_for : ProgramData → Line → List Line
lines_for program line =
    hidden (last_of program 0) line (base_of program line.statement) (pieces_of program line)
    ++ last_line program line ∷ []

-- ---- programs

-- how many private variables, and how many variables of loops, its pieces have
abbrev pub pieces_count : Bool → ProgramData → Line → ℕ
pieces_count true program line =
    if is_for_all line.statement then length (pieces_of program line) else 0
pieces_count false program line =
    if is_for_all line.statement then 0 else length (pieces_of program line)

-- as many as the line with most has
abbrev pub most_pieces : Bool → ProgramData → List Line → ℕ
most_pieces common program [] = 0
most_pieces common program (line ∷ lines) =
    max (pieces_count common program line) (most_pieces common program lines)

abbrev pub nameless : ProgramData → PrivateData
nameless program = record { name = []; start = replicate program.procs 0 }

abbrev pub flat : ProgramData → ProgramData
flat program = record program {
  privates = program.privates
      ++ replicate (most_pieces false program program.lines) (nameless program);
  loops = program.loops + most_pieces true program program.lines;
  lines = flat_map (lines_for program) program.lines;
}

-- of the first n lines this is the first that hidden lines come before
pub record IsFirstSplit (program : ProgramData) (number n : ℕ) : Type 0 where
  pub j : ℕ
  pub line : Line
  pub within : j < n
  pub is_there : slice_get program.lines j ≡ Some line
  pub number_is : number ≡ line.number
  pub has_pieces : 0 < length (pieces_of program line)
  pub before : (k : ℕ) (other : Line) → k < j → slice_get program.lines k ≡ Some other →
      length (pieces_of program other) ≡ 0

-- with variables for the pieces of the lines that have most there are too many cells
pub record IsTooWide (program : ProgramData) (number : ℕ) : Type 0 where
  pub first : IsFirstSplit program number (length program.lines)
  pub cells : MAX_CELLS < shared_cells program.arrays + program.procs
      * (length (flat program).privates + (flat program).loops + program.choices)
