-- A replay by the random plan of a seed.
use Rattle.std.specs.Prelude.{◌≡◌, ◌⊎◌, ◌<◌, ℕ, List, [], Option, Some, None, IsTrue, false}
use Rattle.std.specs.Io.KnownBytes.{Appends}
use Rattle.clap.specs.Words.{Text}
use Rattle.command_data.specs.declared.line.Ask.{Ask}
use Rattle.command_data.specs.declared.line.Ask.TheVariants.{Alone}
use Rattle.command_data.specs.declared.line.AskAlone.TheVariants.{Replay}
use Rattle.command_data.specs.declared.line.Line.{Line}
use Rattle.pardo_text.specs.declared.settings.SetKind.{SetKind}
use Rattle.naming.specs.Writing.{Writing}
use Rattle.stop_plan.specs.Random.{random_rows}
use Rattle.stop_plan.specs.Texts.{plan_text}
use Rattle.pram_commands.specs.Inputs.{InputsRead}
use Rattle.pram_commands.specs.Served.{Served}
use Rattle.refusals.specs.declared.refusal.TheConstants.{REFUSED, UNFINISHED}
use Rattle.command_answers.specs.Refusing.{RefusesSet}
use Rattle.command_answers.specs.Setting.{IsRefusedSet, IsSetText}

-- the text of the plan of a seed that a replay is to follow, if it has one
abbrev pub random_text : Ask → Option ℕ → Option (List ℕ)
random_text (Alone (Replay workers alone)) (Some seed) =
    Some (plan_text (random_rows workers.count seed))
random_text _ _ = None

-- The line was served, with this status: its job came from a source that gives such bytes, and its
-- plan was this text.
pub record ServesByPlan (GivesJob : Option (List ℕ) → Type 0) (Fails : Type 0) (line : Line)
    (plan : List ℕ) (writes : Writing) (status : ℕ) : Type 0 where
  pub reads : InputsRead
  pub of_job : GivesJob reads.job
  pub of_plan : reads.plan ≡ Some plan
  pub fails : IsTrue reads.job_failed → Fails
  pub served : Served line reads writes status

-- Where the replay was made, the device took the text of the plan, unless it failed.
abbrev pub TellsPlan : List ℕ → Writing → ℕ → Type 0
TellsPlan plan told status = (status < REFUSED) ⊎ (status ≡ UNFINISHED) →
    told.failed ≡ false → Appends told.out told.out' plan

-- The line was served by this plan, with the text of its file as these words set names.
pub record ServesSetByPlan (Holds : List ℕ → Option (List ℕ) → Type 0) (Fails : Type 0)
    (line : Line) (given : List Text) (plan : List ℕ) (writes : Writing) (status : ℕ)
    : Type 0 where
  pub text : List ℕ
  pub set : IsSetText Holds line.file.now given text
  pub serves : ServesByPlan (λ bytes. bytes ≡ Some text) Fails line plan writes status

-- The line was served by this plan, as it stands or as these words set names; or they are refused.
abbrev pub AnswersByPlan : (List ℕ → Option (List ℕ) → Type 0) → Type 0 → Line → List Text →
    List ℕ → Writing → ℕ → Type 0
AnswersByPlan Holds Fails line given plan writes status =
    ((given ≡ []) × ServesByPlan (Holds line.file.now) Fails line plan writes status)
    ⊎ (ServesSetByPlan Holds Fails line given plan writes status
    ⊎ RefusesSet ((kind : SetKind) × IsRefusedSet Holds line.file.now given kind) writes status)
