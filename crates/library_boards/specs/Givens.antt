-- Start values that a caller gives as numbers, and where an array lies.
use Rattle.std.specs.Prelude.{◌≡◌, ◌==◌, ℕ, ◌+◌, List, [], ◌∷◌, ◌++◌, length, take, drop, find}
use Rattle.std.specs.Prelude.{if◌then◌else◌, unwrap_or, Option, Some, None, Result, Ok, Err}
use Rattle.std.specs.Str.{bytes_eq}
use Rattle.pram_job.specs.Job.{JobData}
use Rattle.pardo_program.specs.Program.{ArrayData}
use Rattle.pardo_text.specs.Reading.{program_of}
use Rattle.pardo_text.specs.Settings.{arrays_of}
use Rattle.pardo_text.specs.declared.fault.PardoFault.{PardoFault}
use Rattle.pardo_text.specs.declared.settings.SetFault.{SetFault}
use Rattle.pardo_text.specs.declared.settings.SetKind.{SetKind}
use Rattle.pardo_text.specs.declared.settings.SetKind.TheVariants.{UnknownName, WrongLength}
use Rattle.pardo_answers.specs.Language.{is_program}
use Rattle.library_boards.specs.Calls.{IsOpenStatus}
use Rattle.library_boards.specs.Jobs.{IsNoJob, IsUncountedJobOf}
use Rattle.library_boards.specs.declared.given.Given.{Given}
use Rattle.library_boards.specs.declared.given.GivenFault.{GivenFault}
use Rattle.library_boards.specs.declared.given.GivenFault.TheVariants.{Text, Unfit}
use Rattle.library_boards.specs.declared.job.OpenFault.TheVariants.{Memory}
use Rattle.library_boards.specs.declared.place.PlaceTold.{PlaceTold}
use Rattle.library_boards.specs.declared.status.TheConstants.{REFUSED}

-- the array or scalar of this name
abbrev pub array_called : List ArrayData → List ℕ → Option ArrayData
array_called arrays name = find (λ array. bytes_eq array.name name) arrays

-- those of a text, which is one of the machine where it has none
abbrev pub text_arrays : List ℕ → List ArrayData
text_arrays text = if is_program text then arrays_of (program_of text) else []

-- ---- start values

-- the cells, of which those from this one on have these values
abbrev pub cells_holding : ℕ → List ℕ → List ℕ → List ℕ
cells_holding first values cells =
    take first cells ++ values ++ drop (first + length values) cells

-- the cells with the values that are given of an array, one for each of its places
abbrev pub put_in : Option ArrayData → List ℕ → List ℕ → Result (List ℕ) SetKind
put_in None values cells = Err UnknownName
put_in (Some array) values cells =
    if length values == length array.start then Ok (cells_holding array.base values cells)
    else Err WrongLength

-- the next cells, or that what has this number does not fit
abbrev pub put_on : ℕ → Result (List ℕ) SetKind → (List ℕ → Result (List ℕ) SetFault) →
    Result (List ℕ) SetFault
put_on at (Ok cells) next = next cells
put_on at (Err kind) next = Err (record { at = at; kind = kind })

-- the cells with all that is given, one after another, counted from this number on
abbrev pub put_all : List ArrayData → ℕ → List Given → List ℕ → Result (List ℕ) SetFault
put_all arrays at [] cells = Ok cells
put_all arrays at (one ∷ others) cells =
    put_on at (put_in (array_called arrays one.name.now) one.values.now cells)
    (put_all arrays (at + 1) others)

-- the job, but that the cells of arrays start with what is given
pub record IsJobWith (arrays : List ArrayData) (given : List Given) (own job : JobData)
    : Type 0 where
  pub cells : List ℕ
  pub puts : put_all arrays 0 given own.init ≡ Ok cells
  pub is : job ≡ record own { init = cells }

-- the job of a text whose steps nobody counts, with what is given
pub record IsGivenJob (text : List ℕ) (given : List Given) (job : JobData) : Type 0 where
  pub own : JobData
  pub of : IsUncountedJobOf text own
  pub made : IsJobWith (text_arrays text) given own job

-- why there is none: the first that does not fit, or the text has no job
abbrev pub IsUnfitFor : List ArrayData → List Given → List ℕ → GivenFault → Type 0
IsUnfitFor arrays given cells (Unfit fault) = put_all arrays 0 given cells ≡ Err fault
IsUnfitFor arrays given cells (Text fault) = fault ≡ Memory

abbrev pub IsUnfitGiven : List ℕ → List Given → SetFault → Type 0
IsUnfitGiven text given fault = (own : JobData) × IsUncountedJobOf text own
    × (put_all (text_arrays text) 0 given own.init ≡ Err fault)

abbrev pub IsGivenFault : List ℕ → List Given → GivenFault → Type 0
IsGivenFault text given (Text fault) = IsNoJob text fault
IsGivenFault text given (Unfit fault) = IsUnfitGiven text given fault

-- why there is no board: what is given does not fit the text, or the text has none at all
pub data IsGivenStatus (text : List ℕ) (given : List Given) (workers grain status : ℕ)
    : Type 0 where
  of_opening : IsOpenStatus text workers grain status →
      IsGivenStatus text given workers grain status
  of_given : (fault : SetFault) → IsUnfitGiven text given fault → status ≡ REFUSED →
      IsGivenStatus text given workers grain status

-- ---- where an array lies

-- the cells of an array or scalar, and how it was declared
pub record IsArraysPlace (array : ArrayData) (told : PlaceTold) : Type 0 where
  pub first : told.first ≡ array.base
  pub places : told.length ≡ length array.start
  pub columns : told.columns ≡ unwrap_or array.width 0
  pub is_array : told.is_array ≡ (if array.is_scalar then 0 else 1)

-- this is where the array or scalar of this name lies, of these
pub record IsPlaceIn (arrays : List ArrayData) (name : List ℕ) (told : PlaceTold) : Type 0 where
  pub array : ArrayData
  pub called : array_called arrays name ≡ Some array
  pub place : IsArraysPlace array told

-- the program is refused by its text
pub record IsRefusedText (text : List ℕ) : Type 0 where
  pub fault : PardoFault
  pub refused : program_of text ≡ Err fault
