-- Flattening keeps runs, and the job of the flat program carries that of the program.
use Rattle.std.specs.Prelude.{◌≡◌, ℕ, zero, suc, ◌+◌, ◌<◌, ◌≤◌, ◌⊎◌, length, slice_get}
use Rattle.std.specs.Prelude.{Option, Some, None, IsTrue, is_some}
use Rattle.pardo_program.specs.declared.statement.Line.{Line}
use Rattle.pardo_program.specs.Lawful.{IsProgram}
use Rattle.pardo_program.specs.Program.{ProgramData}
use Rattle.pardo_flat.specs.Flat.{flat, first_flat_of, is_for_all, pieces_of, flat_size}
use Rattle.pardo_job.specs.Carries.{Shares, StandsFor}
use Rattle.pardo_job.specs.Conflicts.{asked_for}
use Rattle.pardo_job.specs.Meaning.{Source, after}

-- how many flat lines are made for the line that is next
abbrev pub size_next : ProgramData → Option Line → ℕ
size_next program None = 0
size_next program (Some line) = flat_size program line

-- and for the first n lines
abbrev pub flat_count : ProgramData → ℕ → ℕ
flat_count program zero = 0
flat_count program (suc n) = flat_count program n
    + size_next program (slice_get program.lines (after program n).at)

-- no line is next, and all processors are gone
pub record IsLeft (program : ProgramData) (source : Source) : Type 0 where
  pub at : length program.lines ≡ source.at
  pub all : (i : ℕ) → IsTrue (is_some (source.gone i))

-- The line after n lines, of which the flat program makes so many lines: hidden ones, which ask for
-- nothing, and the last one, in which each processor asks for what it asks for in the line. Where a
-- piece in a line of a loop has no value, the flat program is left.
pub record KeepsLine (program : ProgramData) (n : ℕ) (line : Line) : Type 0 where
  pub shares : (k : ℕ) → k ≤ length (pieces_of program line) →
      Shares program (after program n) (after (flat program) (flat_count program n + k))
  pub at : (k : ℕ) → k ≤ length (pieces_of program line) →
      ((after (flat program) (flat_count program n + k)).at
      ≡ first_flat_of program (after program n).at + k)
      ⊎ (IsTrue (is_for_all line.statement)
      × IsLeft (flat program) (after (flat program) (flat_count program n + k)))
  pub gone : (k i number : ℕ) → k ≤ length (pieces_of program line) →
      (after (flat program) (flat_count program n + k)).gone i ≡ Some number →
      (after program (n + 1)).gone i ≡ Some number
  pub hidden : (k i : ℕ) → k < length (pieces_of program line) →
      asked_for (flat program) (after (flat program) (flat_count program n + k)) i ≡ None
  pub asks : (i : ℕ) → asked_for (flat program)
      (after (flat program) (flat_count program n + length (pieces_of program line))) i
      ≡ asked_for program (after program n) i

pub record KeepsRun (program : ProgramData) (n : ℕ) : Type 0 where
  pub stands : StandsFor program (after program n) (after (flat program) (flat_count program n))
  pub line : (line : Line) → slice_get program.lines (after program n).at ≡ Some line →
      KeepsLine program n line

abbrev pub FlatteningKeepsRuns : Type 0
FlatteningKeepsRuns = (program : ProgramData) (n : ℕ) → IsProgram program → KeepsRun program n
