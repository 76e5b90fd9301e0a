-- Submissions in files, judged.
use Rattle.std.specs.Prelude.{◌≡◌, ◌≢◌, ◌≤◌, ◌⊎◌, ℕ, List, Option}
use Rattle.std.specs.Io.KnownBytes.{Appends}
use Rattle.clap.specs.Words.{Text}
use Rattle.exercise_words.specs.Records.{HasNoTrials, AreRecorded}
use Rattle.exercise_words.specs.declared.trials.NoTrials.{NoTrials}
use Rattle.exercise_words.specs.declared.trials.NoTrials.TheVariants as why
use Rattle.naming.specs.Writing.{Writing}
use Rattle.pram_streams.specs.Transfer.{AppendsBeginning}
use Rattle.refusals.specs.Refusals.{refusal_status}
use Rattle.refusals.specs.declared.refusal.TheConstants.{FAILED, MEMORY, REFUSED}
use Rattle.command_answers.specs.Refusing.{RefusesSet}
use Rattle.command_answers.specs.Setting.{BySetting, FileGives}
use Rattle.command_answers.specs.declared.judging.Unjudged.{Unjudged}
use Rattle.command_answers.specs.declared.judging.Unjudged.TheVariants.{Unset, Exercise}

-- The output took the records, or failed after a beginning of them.
pub record ServesJudging (Holds : List ℕ → Option (List ℕ) → Type 0) (file : Text)
    (files : List Text) (writes : Writing) (status : ℕ) : Type 0 where
  pub bytes : List ℕ
  pub ends : ℕ
  pub judged : AreRecorded (FileGives Holds) file files bytes ends
  pub wrote : ((status ≡ ends) × Appends writes.out writes.out' bytes)
      ⊎ ((FAILED ≤ status) × (status ≤ MEMORY) × AppendsBeginning writes.out writes.out' bytes)

-- The file gave a text by which nothing can be judged, for this reason.
abbrev pub IsNoExercise : (List ℕ → Option (List ℕ) → Type 0) → Text → NoTrials → Type 0
IsNoExercise Holds file reason =
    (text : List ℕ) × FileGives Holds file text × HasNoTrials text reason

-- So nothing was judged; or a file failed, or memory ran out.
abbrev pub ByExercise : (List ℕ → Option (List ℕ) → Type 0) → Text → Unjudged → Type 0
ByExercise Holds file (Unset unset) = BySetting (λ kind. ⊥) unset.refusal
ByExercise Holds file (Exercise reason) = IsNoExercise Holds file reason

abbrev pub reason_status : NoTrials → ℕ
reason_status why.Memory = MEMORY
reason_status _ = REFUSED

abbrev pub unjudged_status : Unjudged → ℕ
unjudged_status (Unset unset) = refusal_status unset.refusal
unjudged_status (Exercise reason) = reason_status reason

-- So it was done; or the file gave a text by which nothing can be judged, or failed.
abbrev pub AnswersJudging : (List ℕ → Option (List ℕ) → Type 0) → Text → List Text → Writing → ℕ →
    Type 0
AnswersJudging Holds file files writes status = ServesJudging Holds file files writes status
    ⊎ RefusesSet ((reason : NoTrials) × (reason ≢ why.Memory) × IsNoExercise Holds file reason)
    writes status
