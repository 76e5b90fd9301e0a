-- What the command comes to that prints the steps of a window.
use Rattle.std.specs.Prelude.{◌≡◌, ℕ, Bool, List, Option, Some, None, ⊤}
use Rattle.pram_job.specs.Job.{JobData}
use Rattle.pram_step.specs.Runs.{IsAnswer}
use Rattle.pram_step.specs.declared.answer.RunAnswer.{RunAnswer}
use Rattle.pram_rows.specs.Rows.{rows_text}
use Rattle.pram_rows.specs.Shown.{last_step}
use Rattle.pram_rows.specs.declared.window.Window.{Window}
use Rattle.pram_commands.specs.Did.{Command, Showing}
use Rattle.pram_commands.specs.Inputs.{missing_step}
use Rattle.naming.specs.Names.{AreNames, NamingData}
use Rattle.naming.specs.RowNames.{row_words}
use Rattle.refusals.specs.declared.fault.CommandFault.{CommandFault}
use Rattle.refusals.specs.declared.fault.CommandFault.TheVariants.{OutsideStep}

-- This is the answer of the job of a text, and these bytes are the rows of its window.
pub record TellsSteps (job_text : List ℕ) (job : JobData) (window : Window) (answer : RunAnswer)
    (front : List ℕ) : Type 0 where
  pub answers : IsAnswer job answer
  pub names : Option NamingData
  pub are_names : AreNames job_text job names
  pub rows : front ≡ rows_text (row_words names) job window.from window.to (last_step job answer)

-- a fault says which step of a window's first one the job does not have
abbrev pub LacksStep : ℕ → List ℕ → JobData → CommandFault → Type 0
LacksStep first job_text job (OutsideStep step) = missing_step job first ≡ Some step
LacksStep first job_text job _ = ⊥

-- it prints the rows of the window, which begins with a step of the job, and then the answer,
-- unless the rows are to stand alone
abbrev pub stepping : Bool → Window → Command
stepping alone window = record {
  workers = None;
  IsPlan = λ text plan. ⊥;
  HasPlanFault = λ text row kind. ⊥;
  Has = λ job. missing_step job window.from ≡ None;
  Lacks = LacksStep window.from;
  InPieces = ⊤;
  Comes = λ job_text job plan. Showing alone (TellsSteps job_text job window) job_text job;
}
