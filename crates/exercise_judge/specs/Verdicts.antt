-- What is said of a submission, and what that means.
use Rattle.std.specs.Prelude.{◌≡◌, ◌≢◌, ⊤, ℕ, ◌+◌, Bool, List, All, take, slice_get, Some, true}
use Rattle.std.specs.Prelude.{Result, Ok, Err}
use Rattle.pardo_text.specs.declared.fault.PardoKind.TheVariants as text
use Rattle.pardo_job.specs.declared.fault.JobKind.TheVariants as job
use Rattle.pardo_job.specs.declared.fault.Refusal.{Refusal}
use Rattle.pardo_job.specs.declared.fault.Refusal.TheVariants.{Text, Job}
use Rattle.exercise_judge.specs.declared.verdict.Verdict.{Verdict}
use Rattle.exercise_judge.specs.declared.verdict.Verdict.TheVariants.{Passed, Failed}
use Rattle.exercise_judge.specs.declared.verdict.Wrong.{Wrong}
use Rattle.exercise_judge.specs.declared.verdict.Wrong.TheVariants as wrong
use Rattle.exercise_text.specs.Entries.{EntryData}
use Rattle.exercise_text.specs.Keys.{is_input}
use Rattle.exercise_judge.specs.declared.verdict.Unfit.{Unfit}
use Rattle.exercise_judge.specs.declared.verdict.UnfitKind.{UnfitKind}
use Rattle.exercise_judge.specs.declared.verdict.UnfitKind.TheVariants as unfit
use Rattle.exercise_judge.specs.Trials.{IsTrial, Meets, TrialData}
use Rattle.exercise_judge.specs.Wrongs.{IsWrong}

-- Memory did not run out, and the run was not cut off.
abbrev pub IsOfSubmission : Refusal → Type 0
IsOfSubmission (Text fault) = fault.kind ≢ text.Memory
IsOfSubmission (Job fault) = (fault.kind ≢ job.Memory) × (fault.kind ≢ job.Endless)

-- it says something of the submission
abbrev pub IsCertain : Wrong → Type 0
IsCertain wrong.Memory = ⊥
IsCertain (wrong.Program refusal) = IsOfSubmission refusal
IsCertain _ = ⊤

-- The fact holds if nothing is wrong, and does not if something is for certain.
abbrev pub Judges : {X : Type 0} → Result X Wrong → Type 0 → Type 0
Judges (Ok x) fact = fact
Judges (Err wrong) fact = IsCertain wrong → ¬ fact

-- The trial of this number, counted from 1, is not met, if that is certain, and all before are; and
-- what is said is wrong with it.
pub record FailsAt (trials : List TrialData) (submission : List ℕ) (input : ℕ) (hidden : Bool)
    (wrong : Wrong) : Type 0 where
  pub before : ℕ
  pub number : input ≡ before + 1
  pub trial : TrialData
  pub is_there : slice_get trials before ≡ Some trial
  pub is_hidden : hidden ≡ trial.hidden
  pub met : All (λ trial. Meets trial submission) (take before trials)
  pub unmet : IsCertain wrong → ¬ Meets trial submission
  pub is_wrong : IsWrong trial submission wrong

abbrev pub IsVerdictOn : List TrialData → List ℕ → Verdict → Type 0
IsVerdictOn trials submission Passed = All (λ trial. Meets trial submission) trials
IsVerdictOn trials submission (Failed input hidden wrong) =
    FailsAt trials submission input hidden wrong

-- ---- an exercise that nothing can be judged by

-- it says something of the exercise
abbrev pub IsOfExercise : UnfitKind → Type 0
IsOfExercise unfit.Memory = ⊥
IsOfExercise (unfit.Reference refusal) = IsOfSubmission refusal
IsOfExercise _ = ⊤

-- there is no such thing, if that is certain
abbrev pub HasNone : {X : Type 0} → UnfitKind → (X → Type 0) → Type 0
HasNone {X} kind Is = IsOfExercise kind → (x : X) → ¬ Is x

-- The input in this line has no trial, if that is certain.
pub record IsUnfit (exercise : List EntryData) (found : Unfit) : Type 0 where
  pub place : ℕ
  pub input : EntryData
  pub is_there : slice_get exercise place ≡ Some input
  pub is : is_input input.key ≡ true
  pub line : found.line ≡ input.number
  pub none : HasNone found.kind (IsTrial exercise input)
