-- What is said of submissions by the exercise that a text spells, as the fields of records.
use Rattle.std.specs.Prelude.{◌≡◌, ◌≢◌, ◌⊎◌, ◌++◌, ⊤, ℕ, Bool, true, false, List, [], ◌∷◌, Ok, Err}
use Rattle.std.specs.Prelude.{codes, decimal, if◌then◌else◌, max}
use Rattle.csv.specs.Writing.{default_writer, row_text}
use Rattle.exercise_text.specs.Entries.{EntryData}
use Rattle.exercise_text.specs.Reading.{exercise_of}
use Rattle.exercise_judge.specs.Trials.{AreTrials, TrialData}
use Rattle.exercise_judge.specs.Verdicts.{IsUnfit, IsVerdictOn}
use Rattle.exercise_judge.specs.declared.verdict.Verdict.{Verdict}
use Rattle.exercise_judge.specs.declared.verdict.Verdict.TheVariants.{Passed, Failed}
use Rattle.exercise_judge.specs.declared.verdict.Wrong.{Wrong}
use Rattle.exercise_judge.specs.declared.verdict.Wrong.TheVariants.{Memory}
use Rattle.exercise_words.specs.Words.{AddsWords, IsWrongSaid}
use Rattle.refusals.specs.declared.refusal.TheConstants.{DONE}
use Rattle.exercise_words.specs.declared.said.Said.{Said}
use Rattle.exercise_words.specs.declared.said.TheConstants.{NOT_PASSED}
use Rattle.exercise_words.specs.declared.trials.NoTrials.{NoTrials}
use Rattle.exercise_words.specs.declared.trials.NoTrials.TheVariants as why

-- The text spells an exercise, and these are its trials.
pub record HasTrials (text : List ℕ) (trials : List TrialData) : Type 0 where
  pub exercise : List EntryData
  pub reads : exercise_of text ≡ Ok exercise
  pub are : AreTrials exercise trials

-- The text is no exercise, or one by which nothing can be judged, or memory ran out.
abbrev pub HasNoTrials : List ℕ → NoTrials → Type 0
HasNoTrials text (why.Fault fault) = exercise_of text ≡ Err fault
HasNoTrials text (why.Unfit unfit) = (exercise : List EntryData)
    × (exercise_of text ≡ Ok exercise) × IsUnfit exercise unfit
HasNoTrials text why.Memory = ⊤

-- these words say what is wrong, which is not that memory ran out
abbrev pub IsWhat : Bool → Wrong → List ℕ → Type 0
IsWhat hidden wrong what = (wrong ≢ Memory) × AddsWords [] what (IsWrongSaid hidden wrong)

-- so a verdict is said
abbrev pub SaysVerdict : Verdict → Said → Type 0
SaysVerdict Passed said = (said.passed ≡ true) × (said.input.items ≡ []) × (said.what.items ≡ [])
SaysVerdict (Failed input hidden wrong) said = (said.passed ≡ false)
    × (said.input.items ≡ decimal input) × IsWhat hidden wrong said.what.items

-- The submission was judged by these trials, and the verdict is said.
pub record IsSaid (trials : List TrialData) (submission : List ℕ) (said : Said) : Type 0 where
  pub verdict : Verdict
  pub judged : IsVerdictOn trials submission verdict
  pub says : SaysVerdict verdict said

-- ---- records

abbrev pub yes_or_no : Bool → List ℕ
yes_or_no passed = if passed then codes "yes" else codes "no"

abbrev pub fields_of : Said → List (List ℕ)
fields_of said = yes_or_no said.passed ∷ said.input.items ∷ said.what.items ∷ []

-- the status of a submission that passed, or did not
abbrev pub passed_status : Bool → ℕ
passed_status passed = if passed then DONE else NOT_PASSED

-- ---- records of files

-- What is said of the submission that a file gave. Where it was not judged, since the file gave
-- none or memory ran out, it has not passed, and no input is named.
abbrev pub IsSaidOf : (List ℕ → List ℕ → Type 0) → List TrialData → List ℕ → Said → Type 0
IsSaidOf Gives trials file said =
    ((submission : List ℕ) × Gives file submission × IsSaid trials submission said)
    ⊎ ((said.passed ≡ false) × (said.input.items ≡ []))

-- the record of a file
abbrev pub file_record : List ℕ → Said → List ℕ
file_record file said = row_text default_writer (file ∷ fields_of said)

-- the records of these files, in order, and the greatest of their statuses
abbrev pub AreRecords : (List ℕ → List ℕ → Type 0) → List TrialData → List (List ℕ) → List ℕ →
    ℕ → Type 0
AreRecords Gives trials [] bytes status = (bytes ≡ []) × (status ≡ DONE)
AreRecords Gives trials (file ∷ files) bytes status =
    (said : Said) × (rest : List ℕ) × (later : ℕ)
    × IsSaidOf Gives trials file said × AreRecords Gives trials files rest later
    × (bytes ≡ file_record file said ++ rest)
    × (status ≡ max (passed_status said.passed) later)

-- after a header
abbrev pub header_and_records : List ℕ → List ℕ
header_and_records records = codes "file,passed,input,what\n" ++ records

-- The file gave an exercise, and these bytes are the records of the submissions in the other files,
-- with this status. Gives says which text the file of a name gave.
pub record AreRecorded (Gives : List ℕ → List ℕ → Type 0) (file : List ℕ) (files : List (List ℕ))
    (bytes : List ℕ) (status : ℕ) : Type 0 where
  pub text : List ℕ
  pub gives : Gives file text
  pub trials : List TrialData
  pub has : HasTrials text trials
  pub records : List ℕ
  pub judged : AreRecords Gives trials files records status
  pub prints : bytes ≡ header_and_records records
