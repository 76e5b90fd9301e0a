-- What a status says of the words that the program was given.
use Rattle.std.specs.Prelude.{◌≡◌, ◌⊎◌, ℕ, Bool, true, false, List, [], Option, None}
use Rattle.std.specs.Prelude.{MatchBool, MatchOption, Some, map}
use Rattle.std.specs.Global.{Vec}
use Rattle.clap.specs.Words.{IsAmong, Text, fault_of, subcommand_of}
use Rattle.clap.specs.declared.error.kind.ErrorKind.TheVariants.{DisplayHelp, DisplayVersion}
use Rattle.command_data.specs.declared.line.Ask.{Ask}
use Rattle.command_data.specs.declared.line.Ask.TheVariants.{Alone, OnThreads}
use Rattle.command_data.specs.declared.line.AskAlone.TheVariants.{Sweep}
use Rattle.command_data.specs.declared.line.AskOnThreads.{AskOnThreads}
use Rattle.command_data.specs.declared.line.Line.{Line}
use Rattle.pardo_text.specs.declared.settings.SetKind.{SetKind}
use Rattle.naming.specs.Writing.{Writing}
use Rattle.pram_commands.specs.Files.{ServesFiles, ServesText}
use Rattle.refusals.specs.declared.refusal.TheConstants.{DONE, FAILED, MEMORY}
use Rattle.command_line.specs.CommandLine.{HasSettings, IsAskedLine, IsJudging, MeanNoLine, pramx}
use Rattle.command_line.specs.declared.line.Asked.{Asked}
use Rattle.command_line.specs.declared.line.Judging.{Judging}
use Rattle.command_answers.specs.Judging.{AnswersJudging}
use Rattle.command_answers.specs.Random.{AnswersByPlan, random_text}
pub use Rattle.command_answers.specs.Refusing.{RefusesSet}
use Rattle.command_answers.specs.Setting.{IsRefusedSet, IsSetText}
use Rattle.command_answers.specs.Sweeping.{IsRefusedSweep, ServesSweep}
use Rattle.command_answers.specs.declared.answer.Waiting.{Waiting}

-- The line was served with the text of its file as these words set names.
pub record ServesLineSet (Holds : List ℕ → Option (List ℕ) → Type 0) (Fails : Type 0) (line : Line)
    (given : List Text) (writes : Writing) (status : ℕ) : Type 0 where
  pub text : List ℕ
  pub set : IsSetText Holds line.file.now given text
  pub serves : ServesText text Holds Fails line writes status

-- the line asks for a sweep
abbrev pub is_sweep : Ask → Bool
is_sweep (Alone Sweep) = true
is_sweep _ = false

-- The sweep was done, or another line was served so; or that is refused.
abbrev pub ServesOrRefusesSet : (List ℕ → Option (List ℕ) → Type 0) → Type 0 → Line → List Text →
    Writing → ℕ → Type 0
ServesOrRefusesSet Holds Fails line given writes status =
    MatchBool (is_sweep line.ask)
    (ServesSweep Holds line given writes status
    ⊎ RefusesSet (IsRefusedSweep Holds line.file.now given) writes status)
    (ServesLineSet Holds Fails line given writes status
    ⊎ RefusesSet ((kind : SetKind) × IsRefusedSet Holds line.file.now given kind) writes status)

-- The line was served from the files that it names, where no name is set, or so, or that is
-- refused.
abbrev pub ServesOwn : (List ℕ → Option (List ℕ) → Type 0) → Type 0 → Line → List Text → Writing →
    ℕ → Type 0
ServesOwn Holds Fails line given writes status =
    ((given ≡ []) × ServesFiles Holds Fails line writes status)
    ⊎ ServesOrRefusesSet Holds Fails line given writes status

-- What is asked was served: by the random plan that it has, or else as it is.
abbrev pub ServesAsked : (List ℕ → Option (List ℕ) → Type 0) → Type 0 → Asked → List Text →
    Writing → ℕ → Type 0
ServesAsked Holds Fails asked given writes status =
    MatchOption (random_text asked.line.ask asked.random)
    (ServesOwn Holds Fails asked.line given writes status)
    (λ plan. AnswersByPlan Holds Fails asked.line given plan writes status)

-- Memory ran out before anything was written.
abbrev pub Starves : Writing → ℕ → Type 0
Starves writes status = (status ≡ MEMORY) × writes.Unwritten

-- The words mean a line, on such a device, and set these names: it was served.
pub record ServesWords (Holds : List ℕ → Option (List ℕ) → Type 0) (Fails : Type 0)
    (words : List Text) (on_terminal : Bool) (writes : Writing) (status : ℕ) : Type 0 where
  pub asked : Asked
  pub met : IsAskedLine on_terminal (subcommand_of pramx words) asked
  pub given : List Text
  pub sets : HasSettings (subcommand_of pramx words) given
  pub serves : ServesAsked Holds Fails asked given writes status

-- The words ask for judging: it was done, or the exercise is refused.
pub record JudgesWords (Holds : List ℕ → Option (List ℕ) → Type 0) (words : List Text)
    (writes : Writing) (status : ℕ) : Type 0 where
  pub judging : Judging
  pub met : IsJudging (subcommand_of pramx words) judging
  pub judges : AnswersJudging Holds judging.exercise.now
      (map (λ file. file.now) judging.files.items) writes status

-- The words are served as a line, or submissions are judged, unless they mean neither, or memory
-- ran out before anything was written.
abbrev pub AnswersWords :
    (List ℕ → Option (List ℕ) → Type 0) → Type 0 → List Text → Bool → Writing → ℕ → Type 0
AnswersWords Holds Fails words on_terminal writes status =
    ServesWords Holds Fails words on_terminal writes status
    ⊎ (JudgesWords Holds words writes status ⊎ (MeanNoLine words ⊎ Starves writes status))

-- The words ask for help or for the version.
abbrev pub AskForHelp : List Text → Type 0
AskForHelp words = IsAmong DisplayHelp (fault_of pramx words)
    ⊎ IsAmong DisplayVersion (fault_of pramx words)

-- Where the words mean no line, they ask for help or for the version, which was shown; or they are
-- refused, or memory ran out, and unless they ask for that nothing is written on the output.
abbrev pub EndsByWords : List Text → Writing → ℕ → Type 0
EndsByWords words writes status = MeanNoLine words →
    ((status ≡ DONE) × AskForHelp words)
    ⊎ (((status ≡ FAILED) ⊎ (status ≡ MEMORY)) × (AskForHelp words ⊎ writes.Unwritten))

-- A line that waited for threads was served: with its text where it has one, else with its file.
abbrev pub ServesWaiting : (List ℕ → Option (List ℕ) → Type 0) → Type 0 → Option (Vec ℕ) → Line →
    Writing → ℕ → Type 0
ServesWaiting Holds Fails None line writes status = ServesFiles Holds Fails line writes status
ServesWaiting Holds Fails (Some text) line writes status =
    ServesText text.items Holds Fails line writes status

-- the text of a line's file as these words set names, if they set some
abbrev pub IsTextIfSet : (List ℕ → Option (List ℕ) → Type 0) → List ℕ → List Text →
    Option (Vec ℕ) → Type 0
IsTextIfSet Holds file given None = given ≡ []
IsTextIfSet Holds file given (Some text) = IsSetText Holds file given text.items

-- This line, which is done on threads, and its text as these words set names, wait.
pub record WaitsFor (Holds : List ℕ → Option (List ℕ) → Type 0) (line : Line) (given : List Text)
    (waiting : Waiting) : Type 0 where
  pub is : waiting.line ≡ line
  pub text : IsTextIfSet Holds line.file.now given waiting.text
  pub asks : AskOnThreads
  pub threads : line.ask ≡ OnThreads asks

-- The words mean a line, on such a device, which is done on threads: it waits.
pub record AskForThreads (Holds : List ℕ → Option (List ℕ) → Type 0) (words : List Text)
    (on_terminal : Bool) (waiting : Waiting) : Type 0 where
  pub asked : Asked
  pub met : IsAskedLine on_terminal (subcommand_of pramx words) asked
  pub given : List Text
  pub sets : HasSettings (subcommand_of pramx words) given
  pub taken : ¬ MeanNoLine words
  pub waits : WaitsFor Holds asked.line given waiting
