-- The flat program, line by line.
use Rattle.std.specs.Prelude.{◌≡◌, ℕ, ◌+◌, ◌-◌, ◌<◌, ◌≤◌, List, [], ◌∷◌, ◌++◌, length, take}
use Rattle.std.specs.Prelude.{max, slice_get, slice_index, Some, true, false}
use Rattle.std.specs.List.{flat_map}
use Rattle.pardo_program.specs.declared.statement.Line.{Line}
use Rattle.pardo_program.specs.declared.statement.Statement.{Statement}
use Rattle.pardo_program.specs.declared.statement.Statement.TheVariants.{While, EndWhile, For}
use Rattle.pardo_program.specs.declared.statement.Statement.TheVariants.{EndFor}
use Rattle.pardo_program.specs.Expression.{Tree}
use Rattle.pardo_program.specs.Lawful.{IsProgram}
use Rattle.pardo_program.specs.Program.{ProgramData}
use Rattle.pardo_flat.specs.declared.flat.Flat.{Flat}
use Rattle.pardo_flat.specs.declared.flat.FlatLines.{FlatLines}
use Rattle.pardo_flat.specs.declared.flat.Flattened.{Flattened}
use Rattle.pardo_flat.specs.declared.flat.Flattened.TheVariants as flattened
use Rattle.pardo_flat.specs.Flat.{base_of, first_flat_of, fits, hidden, line_parts, most_pieces}
use Rattle.pardo_flat.specs.Flat.{IsFirstSplit, IsTooWide, flat}

-- the lines for a line with these pieces, of which this is left
abbrev pub parted_line : ℕ → Line → List Tree → Statement → List Line
parted_line base line pieces rest =
    hidden 0 line base pieces ++ record line { statement = rest } ∷ []

abbrev pub unmoved_lines : ProgramData → Line → List Line
unmoved_lines program line = parted_line (base_of program line.statement) line
    (line_parts program line).0 (line_parts program line).1

-- the lines that loops name, where these are the first of the lines for each
abbrev pub moved_by : (ℕ → ℕ) → Statement → Statement
moved_by first (While tree end) = While tree (first (end + 1) - 1)
moved_by first (EndWhile begin) = EndWhile (first begin)
moved_by first (For nest low high up end) = For nest low high up (first (end + 1) - 1)
moved_by first (EndFor begin) = EndFor (first (begin + 1) - 1)
moved_by first statement = statement

abbrev pub moved_line : (ℕ → ℕ) → Line → Line
moved_line first line = record line { statement = moved_by first line.statement }

-- the lines for the first n lines of the program
pub record AreFlatSoFar (program : ProgramData) (n : ℕ) (lines : List Line) (firsts : List ℕ)
    (most loops split : ℕ) : Type 0 where
  pub lines_are : lines ≡ flat_map (unmoved_lines program) (take n program.lines)
  pub count : length firsts ≡ n
  pub firsts_are : (j : ℕ) → j < n → slice_index firsts j ≡ first_flat_of program j
  pub most_is : most ≡ most_pieces false program (take n program.lines)
  pub loops_is : loops ≡ most_pieces true program (take n program.lines)
  pub split_is : 0 < max most loops → IsFirstSplit program split n

-- where the first of the lines for each line stands, and their end
abbrev pub AreFirsts : ProgramData → List ℕ → Type 0
AreFirsts program firsts = (j : ℕ) → j ≤ length program.lines →
    slice_index firsts j ≡ first_flat_of program j

-- the lines for all lines
pub record AreFlat (program : ProgramData) (flat : FlatLines) : Type 0 where
  pub lines_are : flat.lines.items ≡ flat_map (unmoved_lines program) program.lines
  pub count : length flat.firsts.items ≡ length program.lines + 1
  pub firsts_are : AreFirsts program flat.firsts.items
  pub most_is : flat.most ≡ most_pieces false program program.lines
  pub loops_is : flat.loops ≡ most_pieces true program program.lines
  pub split_is : 0 < max flat.most flat.loops →
      IsFirstSplit program flat.split (length program.lines)

-- the flat program, which is lawful, and where the first lines stand
pub record IsFlatProgram (program : ProgramData) (given : Flat) : Type 0 where
  pub program_is : given.program ≡ flat program
  pub lawful : IsProgram given.program
  pub count : length given.firsts.items ≡ length program.lines + 1
  pub firsts_are : AreFirsts program given.firsts.items

-- three registers are enough for each of these lines
abbrev pub DoAllFit : List Line → Type 0
DoAllFit lines = (j : ℕ) (line : Line) → slice_get lines j ≡ Some line →
    fits line.statement ≡ true

abbrev pub IsFlattened : ProgramData → Flattened → Type 0
IsFlattened program flattened.Same = DoAllFit program.lines
IsFlattened program (flattened.Flat given) = IsFlatProgram program given
IsFlattened program (flattened.TooWide number) = IsTooWide program number
