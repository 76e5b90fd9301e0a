-- Why a header is not set is why there is no text.
use Rattle.std.proofs.Common.{◌≡◌, ℕ, List, Ok, Some}
use Rattle.exercise_text.specs.Entries.{EntryData}
use Rattle.exercise_text.specs.Reading.{exercise_of}
use Rattle.page_core.specs.declared.given.NoGiven.{NoGiven}
use Rattle.page_core.specs.declared.given.NoGiven.TheVariants.{NoExercise, TextTooLong}
use Rattle.page_core.specs.declared.given.NoGiven.TheVariants.{NoInput, Unfit, Memory}
use Rattle.page_core.specs.Given.{CannotBeSet, IsNoGiven, input_at}

pub not_given : (exercise : List EntryData) (input : EntryData) (text submission : List ℕ)
    (line : ℕ) (why : NoGiven) → exercise_of text ≡ Ok exercise →
    input_at line exercise ≡ Some input → CannotBeSet exercise input why →
    IsNoGiven text submission line why
not_given exercise input text submission line Unfit reads at none = record {
  exercise = exercise;
  input = input;
  reads = reads;
  at = at;
  none = none;
}
not_given exercise input text submission line Memory reads at none = none
not_given exercise input text submission line (NoExercise why) reads at none = absurd none
not_given exercise input text submission line TextTooLong reads at none = absurd none
not_given exercise input text submission line NoInput reads at none = absurd none
