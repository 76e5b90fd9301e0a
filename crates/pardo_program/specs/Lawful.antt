-- When a program is lawful.
use Rattle.std.specs.Prelude.{◌≡◌, ℕ, ◌+◌, ◌*◌, ◌^◌, ◌<◌, ◌≤◌, List, [], ◌∷◌, length}
use Rattle.std.specs.List.{All}
use Rattle.pardo_program.specs.declared.limits.TheConstants.{MAX_CELLS, MAX_PROCS}
use Rattle.pardo_program.specs.declared.statement.Line.{Line}
use Rattle.pardo_program.specs.declared.statement.Statement.{Statement}
use Rattle.pardo_program.specs.declared.statement.Statement.TheVariants as statement
use Rattle.pardo_program.specs.declared.statement.Target.{Target}
use Rattle.pardo_program.specs.declared.statement.Target.TheVariants as target
use Rattle.pardo_program.specs.Expression.{Tree, number, own, loop, private, place, apply}
use Rattle.pardo_program.specs.Program.{ArrayData, PrivateData, ProgramData, shared_cells}

-- how many arrays, private variables and lines of code there are, and how many loops and `if`s
-- are open at once
pub record Bounds : Type 0 where
  pub arrays : ℕ
  pub privates : ℕ
  pub loops : ℕ
  pub choices : ℕ
  pub lines : ℕ

-- An expression in code: it names what is there, and its numbers have 32 bits.
abbrev pub IsExpression : Bounds → Tree → Type 0
IsExpression b (number value) = value < 2 ^ 32
IsExpression b own = Unit {0}
IsExpression b (loop nest) = nest < b.loops
IsExpression b (private x) = x < b.privates
IsExpression b (place array index) = (array < b.arrays) × IsExpression b index
IsExpression b (apply op first second) = IsExpression b first × IsExpression b second

-- No own number and no private variable stands in it, and of arrays only scalars, which have no
-- place but the first: so all processors have one value of it, or none has one.
abbrev pub IsCommon : Tree → Type 0
IsCommon (number value) = Unit {0}
IsCommon own = ⊥
IsCommon (loop nest) = Unit {0}
IsCommon (private x) = ⊥
IsCommon (place array index) = index ≡ number 0
IsCommon (apply op first second) = IsCommon first × IsCommon second

-- what a loop depends on
abbrev pub IsCommonTree : Bounds → Tree → Type 0
IsCommonTree b tree = IsExpression b tree × IsCommon tree

abbrev pub IsTarget : Bounds → Target → Type 0
IsTarget b (target.Private x) = x < b.privates
IsTarget b (target.Array array index) = (array < b.arrays) × IsExpression b index

-- and the other line of a loop is there
abbrev pub IsStatement : Bounds → Statement → Type 0
IsStatement b (statement.Assign to value) = IsTarget b to × IsExpression b value
IsStatement b (statement.If condition) = IsExpression b condition
IsStatement b statement.Else = Unit {0}
IsStatement b statement.EndIf = Unit {0}
IsStatement b (statement.While condition end) = IsCommonTree b condition × (end < b.lines)
IsStatement b (statement.EndWhile begin) = begin < b.lines
IsStatement b (statement.For nest first last up end) =
    (nest < b.loops) × IsCommonTree b first × IsCommonTree b last × (end < b.lines)
IsStatement b (statement.EndFor begin) = begin < b.lines

-- how many masks a line writes
abbrev pub masks_of : Statement → ℕ
masks_of (statement.If condition) = 1
masks_of statement.Else = 1
masks_of _ = 0

abbrev pub IsLine : Bounds → Line → Type 0
IsLine b line = IsStatement b line.statement × (line.depth + masks_of line.statement ≤ b.choices)

abbrev pub AreNumbers : List ℕ → Type 0
AreNumbers values = All (λ value. value < 2 ^ 32) values

-- Arrays have a place at least, and their cells follow one another.
abbrev pub AreArrays : List ArrayData → ℕ → Type 0
AreArrays [] base = Unit {0}
AreArrays (array ∷ arrays) base = (array.base ≡ base) × (0 < length array.start)
    × AreNumbers array.start × AreArrays arrays (base + length array.start)

-- a private variable has a start value for each processor
abbrev pub IsPrivate : ℕ → PrivateData → Type 0
IsPrivate procs variable = (length variable.start ≡ procs) × AreNumbers variable.start

abbrev pub bounds_of : ProgramData → Bounds
bounds_of program = record {
  arrays = length program.arrays;
  privates = length program.privates;
  loops = program.loops;
  choices = program.choices;
  lines = length program.lines;
}

pub record IsProgram (program : ProgramData) : Type 0 where
  pub procs : (0 < program.procs) × (program.procs ≤ MAX_PROCS)
  pub arrays : AreArrays program.arrays 0
  pub privates : All (IsPrivate program.procs) program.privates
  pub has_line : 0 < length program.lines
  pub lines : All (IsLine (bounds_of program)) program.lines
  pub cells : shared_cells program.arrays
      + program.procs * (length program.privates + program.loops + program.choices) ≤ MAX_CELLS
