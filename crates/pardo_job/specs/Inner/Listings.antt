-- Where the lines of a program stand.
use Rattle.std.specs.Prelude.{◌≡◌, ℕ, ◌+◌, ◌<◌, ◌≤◌, true, false, List, length, slice_index}
use Rattle.pram_job.specs.declared.limits.TheConstants.{MAX_CODE}
use Rattle.pardo_program.specs.declared.statement.Line.{Line}
use Rattle.pardo_program.specs.Program.{ProgramData}
use Rattle.pardo_job.specs.declared.fault.JobKind.{JobKind}
use Rattle.pardo_job.specs.declared.fault.JobKind.TheVariants.{TooDeep, TooLong, Endless, Memory}
use Rattle.pardo_job.specs.declared.fault.JobKind.TheVariants.{TooManyCells}
use Rattle.pardo_job.specs.Lines.{length_of_line, place_of}
use Rattle.pardo_job.specs.Refusals.{AreFine, is_level}

-- the places of the lines before this one, and its own
pub record ArePlaces (program : ProgramData) (j : ℕ) (places : List ℕ) : Type 0 where
  pub count : length places ≡ j + 1
  pub each : (k : ℕ) → k < j + 1 → slice_index places k ≡ place_of program k
  pub fine : AreFine program j
  pub short : place_of program j < MAX_CODE

-- those of all lines, and that after the last one
abbrev pub AreAllPlaces : ProgramData → List ℕ → Type 0
AreAllPlaces program places = ArePlaces program (length program.lines) places

-- the line stands at a place, and this is the place after it
pub record IsPlaceAfter (program : ProgramData) (line : Line) (place after : ℕ) : Type 0 where
  pub after_is : after ≡ place + length_of_line program line
  pub level : is_level program line ≡ true
  pub short : after < MAX_CODE

-- what is wrong with the line at this place
abbrev pub IsFaultAt : ProgramData → Line → ℕ → ℕ → JobKind → Type 0
IsFaultAt program line place number TooDeep =
    (number ≡ line.number) × (is_level program line ≡ false)
IsFaultAt program line place number TooLong =
    (number ≡ line.number) × (is_level program line ≡ true)
    × (MAX_CODE ≤ place + length_of_line program line)
IsFaultAt program line place number Endless = ⊥
IsFaultAt program line place number TooManyCells = ⊥
IsFaultAt program line place number Memory = number ≡ 0

-- where the code of these lines begins, by the places of all
pub record AreFirstPlaces (lines : ProgramData) (firsts places : List ℕ) : Type 0 where
  pub each : (j : ℕ) → j < length firsts → slice_index firsts j < length lines.lines →
      slice_index places j ≡ place_of lines (slice_index firsts j)
  pub short : place_of lines (length lines.lines) < MAX_CODE
