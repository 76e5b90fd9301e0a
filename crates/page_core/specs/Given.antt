-- A submission with the header of an exercise as an input sets it.
use Rattle.std.specs.Prelude.{◌≡◌, ◌≢◌, ◌⊎◌, ℕ, ◌<◌, ◌==◌, ◌&&◌, List, length, find}
use Rattle.std.specs.Prelude.{Option, Some, None, Ok}
use Rattle.text_lines.specs.Lines.{words_of}
use Rattle.exercise_text.specs.declared.key.Key.TheVariants as key
use Rattle.exercise_text.specs.Entries.{EntryData}
use Rattle.exercise_text.specs.Keys.{is_input}
use Rattle.exercise_text.specs.Reading.{exercise_of}
use Rattle.exercise_text.specs.Submissions.{judged_text}
use Rattle.exercise_text.specs.Headers.{header_as_set}
use Rattle.exercise_judge.specs.Trials.{part_in}
use Rattle.page_core.specs.declared.codes.TheConstants.{MEMORY, TEXT_MOST, TEXT_TOO_LONG}
use Rattle.page_core.specs.declared.exercise_codes.TheConstants.{NO_INPUT, UNFIT}
use Rattle.page_core.specs.declared.given.NoGiven.{NoGiven}
use Rattle.page_core.specs.declared.given.NoGiven.TheVariants.{NoExercise, TextTooLong}
use Rattle.page_core.specs.declared.given.NoGiven.TheVariants.{NoInput, Unfit, Memory}
use Rattle.page_core.specs.declared.put.ExerciseTold.{ExerciseTold}
use Rattle.page_core.specs.Entries.{TellsNoExercise, no_exercise_told}
use Rattle.page_core.specs.Put.{IsTextPut, exercise_counted}

-- the input in this line
abbrev pub input_at : ℕ → List EntryData → Option EntryData
input_at line exercise = find (λ entry. is_input entry.key && (entry.number == line)) exercise

-- the text that is judged with the input in this line
pub record IsGivenText (text submission : List ℕ) (line : ℕ) (given : List ℕ) : Type 0 where
  pub exercise : List EntryData
  pub input : EntryData
  pub header : List ℕ
  pub reads : exercise_of text ≡ Ok exercise
  pub at : input_at line exercise ≡ Some input
  pub set : header_as_set (part_in key.Given exercise) (words_of input.text) ≡ Ok header
  pub is : given ≡ judged_text header submission

-- ---- why there is none

-- the header cannot be set as the input says, or memory ran out
abbrev pub CannotBeSet : List EntryData → EntryData → NoGiven → Type 0
CannotBeSet exercise input Unfit = (header : List ℕ) →
    header_as_set (part_in key.Given exercise) (words_of input.text) ≢ Ok header
CannotBeSet exercise input Memory = Unit {0}
CannotBeSet exercise input _ = ⊥

-- so it is of the input in this line
pub record IsUnset (text : List ℕ) (line : ℕ) : Type 0 where
  pub exercise : List EntryData
  pub input : EntryData
  pub reads : exercise_of text ≡ Ok exercise
  pub at : input_at line exercise ≡ Some input
  pub none : CannotBeSet exercise input Unfit

abbrev pub IsNoGiven : List ℕ → List ℕ → ℕ → NoGiven → Type 0
IsNoGiven text submission line (NoExercise why) = TellsNoExercise text why
IsNoGiven text submission line TextTooLong = TEXT_MOST < length submission
IsNoGiven text submission line NoInput = (exercise : List EntryData)
    × (exercise_of text ≡ Ok exercise) × (input_at line exercise ≡ None)
IsNoGiven text submission line Unfit = IsUnset text line
IsNoGiven text submission line Memory = Unit {0}

abbrev pub no_given_told : NoGiven → ExerciseTold
no_given_told (NoExercise why) = no_exercise_told why
no_given_told TextTooLong = exercise_counted TEXT_TOO_LONG 0 0
no_given_told NoInput = exercise_counted NO_INPUT 0 0
no_given_told Unfit = exercise_counted UNFIT 0 0
no_given_told Memory = exercise_counted MEMORY 0 0

-- the text is told, or why there is none
abbrev pub IsGivenTold : List ℕ → List ℕ → ℕ → List ℕ → List ℕ → ExerciseTold → Type 0
IsGivenTold text submission line old new told =
    ((given : List ℕ) × IsGivenText text submission line given × IsTextPut given old new told)
    ⊎ ((why : NoGiven) × IsNoGiven text submission line why × (told ≡ no_given_told why))
