-- What comes of a program whose steps are found once it was run.
use Rattle.std.specs.Prelude.{◌≡◌, ◌≤◌, ℕ, List, Result, Ok, Err, true}
use Rattle.pram_job.specs.Job.{JobData}
use Rattle.pram_step.specs.declared.answer.RunAnswer.{RunAnswer}
use Rattle.pram_streams.specs.declared.print.PrintFault.{PrintFault}
use Rattle.pram_run.specs.Heard.{Ended}
use Rattle.pram_run.specs.Running.{IsUnfinished}
use Rattle.pardo_job.specs.Compiled.{IsWhole}
use Rattle.pardo_job.specs.Refusals.{most_steps}
use Rattle.pardo_answers.specs.Language.{is_program}
use Rattle.command_data.specs.declared.line.Style.{Style}
use Rattle.naming.specs.BadTexts.{IsBadOrMemory}
use Rattle.naming.specs.Names.{AreNames}
use Rattle.naming.specs.Writing.{Writing}
use Rattle.naming.specs.declared.texts.Spelled.{Spelled}
use Rattle.pram_commands.specs.Did.{tells}
use Rattle.pram_commands.specs.Inner.Puts.{HasAnswered, PutsAnswer}
use Rattle.pram_commands.specs.Threads.{SomeRunEndsIn}
use Rattle.pram_commands.specs.Why.{Explaining}
use Rattle.pram_commands.specs.declared.sources.Drafted.{Drafted}
use Rattle.pram_commands.specs.declared.sources.Refused.{Refused}

-- The text with its job, which needs no more steps than this longer one.
pub record IsLongerRunOf (text : List ℕ) (longer : JobData) (spelled : Spelled) : Type 0 where
  pub program : is_program text ≡ true
  pub same_text : spelled.text.items ≡ text
  pub names : AreNames text spelled.job spelled.names
  pub same : longer ≡ record spelled.job { steps = longer.steps }
  pub most : longer.steps ≡ most_steps spelled.job
  pub within : spelled.job.steps ≤ longer.steps
  pub whole : IsWhole spelled.job

-- Nothing was printed, for a fault of the text or for want of memory.
pub record WasRefused (text : List ℕ) (writes : Writing) (refused : Refused) : Type 0 where
  pub bad : IsBadOrMemory text refused.fault
  pub unwritten : writes.Unwritten

-- The answer was printed in a style, and is the end of the job.
pub record WasTold (style : Style) (text : List ℕ) (longer : JobData) (writes : Writing)
    (answer : RunAnswer) (spelled : Spelled) (put : Result (Unit {0}) PrintFault) : Type 0 where
  pub run : IsLongerRunOf text longer spelled
  pub ends : IsUnfinished answer → ⊥
  pub answered : HasAnswered style text spelled.job writes answer put

-- what hearing how the longer job ended came to
abbrev pub HasToldDrafted : Style → List ℕ → JobData → Writing → Ended →
    Result (Spelled × Result (Unit {0}) PrintFault) Refused → Type 0
HasToldDrafted style text longer writes (Ok answer) (Ok told) =
    WasTold style text longer writes answer told.0 told.1
HasToldDrafted style text longer writes (Err none) (Ok told) = ⊥
HasToldDrafted style text longer writes ended (Err refused) = WasRefused text writes refused

-- A run of the job that was found came to an answer, which was printed.
pub record HasRunTo (style : Style) (drafted : Drafted) (writes : Writing) (spelled : Spelled)
    (result : Result RunAnswer PrintFault) : Type 0 where
  pub names : AreNames drafted.text.items spelled.job spelled.names
  pub puts : PutsAnswer (Explaining style
      (SomeRunEndsIn drafted.text.items spelled.job drafted.plan) drafted.text.items spelled.job)
      ⊥ writes tells result

-- what the run of a drafted program came to
abbrev pub RanDrafted : Style → Drafted → Writing →
    Result (Spelled × Result RunAnswer PrintFault) Refused → Type 0
RanDrafted style drafted writes (Ok told) = HasRunTo style drafted writes told.0 told.1
RanDrafted style drafted writes (Err refused) = WasRefused drafted.text.items writes refused
