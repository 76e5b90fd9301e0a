-- A submission, judged by the exercise that a text spells.
use Rattle.std.specs.Prelude.{◌≡◌, ℕ, List, Ok, Err}
use Rattle.csv.specs.Writing.{default_writer, row_text}
use Rattle.exercise_text.specs.Entries.{EntryData}
use Rattle.exercise_text.specs.Reading.{exercise_of}
use Rattle.exercise_judge.specs.Trials.{TrialData}
use Rattle.exercise_judge.specs.Verdicts.{IsUnfit}
use Rattle.exercise_judge.specs.declared.verdict.Unfit.{Unfit}
use Rattle.exercise_words.specs.Records.{HasTrials, IsSaid, fields_of, passed_status}
use Rattle.exercise_words.specs.declared.said.Said.{Said}
use Rattle.exercise_words.specs.declared.trials.NoTrials.{NoTrials}
use Rattle.exercise_words.specs.declared.trials.NoTrials.TheVariants as why
use Rattle.refusals.specs.declared.fault.CommandFault.TheVariants.{Memory}
use Rattle.library_core.specs.declared.fault.CallFault.{CallFault}
use Rattle.library_core.specs.declared.fault.CallFault.TheVariants as call

-- the record of what is said of a submission
abbrev pub record_of : Said → List ℕ
record_of said = row_text default_writer (fields_of said)

-- The submission was judged by these trials, and this is its record, with its status.
pub record IsRecord (trials : List TrialData) (submission text : List ℕ) (status : ℕ)
    : Type 0 where
  pub said : Said
  pub is : IsSaid trials submission said
  pub writes : text ≡ record_of said
  pub ends : status ≡ passed_status said.passed

-- ---- the call

-- It was judged by the trials of the exercise.
pub record TellsVerdict (exercise submission text : List ℕ) (status : ℕ) : Type 0 where
  pub trials : List TrialData
  pub has : HasTrials exercise trials
  pub judged : IsRecord trials submission text status

-- the text is no exercise, or it is one by which nothing can be judged, or memory ran out
abbrev pub IsExerciseFault : List ℕ → CallFault → Type 0
IsExerciseFault text (call.Exercise fault) = exercise_of text ≡ Err fault
IsExerciseFault text (call.Unfit line) = (exercise : List EntryData)
    × (exercise_of text ≡ Ok exercise)
    × ((found : Unfit) × IsUnfit exercise found × (line ≡ found.line))
IsExerciseFault text (call.Command fault) = fault ≡ Memory
IsExerciseFault text _ = ⊥

-- what is told of why it was not judged
abbrev pub judging_fault : NoTrials → CallFault
judging_fault (why.Fault fault) = call.Exercise fault
judging_fault (why.Unfit unfit) = call.Unfit unfit.line
judging_fault why.Memory = call.Command Memory
