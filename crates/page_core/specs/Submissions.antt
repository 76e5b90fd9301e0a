-- What is found of a submission to an exercise.
use Rattle.std.specs.Prelude.{◌≡◌, ℕ, ◌<◌, Bool, List, length, Ok}
use Rattle.exercise_text.specs.Entries.{EntryData}
use Rattle.exercise_text.specs.Reading.{exercise_of}
use Rattle.exercise_judge.specs.declared.verdict.Verdict.{Verdict}
use Rattle.exercise_judge.specs.declared.verdict.Verdict.TheVariants.{Passed, Failed}
use Rattle.exercise_judge.specs.declared.verdict.Wrong.{Wrong}
use Rattle.exercise_judge.specs.Trials.{AreTrials, TrialData}
use Rattle.exercise_judge.specs.Verdicts.{IsUnfit, IsVerdictOn}
use Rattle.page_core.specs.declared.codes.TheConstants.{TEXT_MOST}
use Rattle.page_core.specs.declared.submission.Finding.{Finding}
use Rattle.page_core.specs.declared.submission.Finding.TheVariants.{NoExercise, TextTooLong}
use Rattle.page_core.specs.declared.submission.Finding.TheVariants.{Unfit, Judged}
use Rattle.page_core.specs.Entries.{TellsNoExercise}

-- the verdict on the submission by the trials of the exercise that the text spells
pub record IsFound (text submission : List ℕ) (verdict : Verdict) : Type 0 where
  pub exercise : List EntryData
  pub trials : List TrialData
  pub reads : exercise_of text ≡ Ok exercise
  pub are : AreTrials exercise trials
  pub is : IsVerdictOn trials submission verdict

-- the submission meets all of them
abbrev pub IsMet : List ℕ → List ℕ → Type 0
IsMet text submission = IsFound text submission Passed

-- the input of this number is not met
abbrev pub IsFailed : List ℕ → List ℕ → ℕ → Type 0
IsFailed text submission input =
    (hidden : Bool) × (wrong : Wrong) × IsFound text submission (Failed input hidden wrong)

abbrev pub IsFinding : List ℕ → List ℕ → Finding → Type 0
IsFinding text submission (NoExercise why) = TellsNoExercise text why
IsFinding text submission TextTooLong = TEXT_MOST < length submission
IsFinding text submission (Unfit unfit) = (exercise : List EntryData)
    × (exercise_of text ≡ Ok exercise) × IsUnfit exercise unfit
IsFinding text submission (Judged verdict) = IsFound text submission verdict
