-- What the command comes to that prints the lines of a program as they are made.
use Rattle.std.specs.Prelude.{◌≡◌, ℕ, Bool, List, [], Option, Some, None, ⊤}
use Rattle.pram_job.specs.Job.{JobData}
use Rattle.pram_step.specs.Runs.{IsAnswer}
use Rattle.pram_step.specs.declared.answer.RunAnswer.{RunAnswer}
use Rattle.pram_rows.specs.Shown.{steps_text}
use Rattle.pram_rows.specs.StepRows.{StepRows}
use Rattle.pram_rows.specs.declared.window.Window.{Window}
use Rattle.pardo_answers.specs.Traces.{trace_header, trace_rows}
use Rattle.pram_commands.specs.Did.{Command, Showing}
use Rattle.naming.specs.Names.{AreNames, NamingData}

-- A text of the machine has no lines to tell: its header stands alone.
abbrev pub traced : Option NamingData → StepRows
traced None = record { header = trace_header; of_step = λ job state step. [] }
traced (Some naming) = trace_rows naming.program naming.places naming.numbers

-- all steps of any job
abbrev pub all_steps : Window
all_steps = record { from = 1; to = 4294967295 }

-- This is the answer of the job of a text, and these bytes are the rows of its program's lines.
pub record TellsMadeLines (job_text : List ℕ) (job : JobData) (answer : RunAnswer) (front : List ℕ)
    : Type 0 where
  pub answers : IsAnswer job answer
  pub names : Option NamingData
  pub are_names : AreNames job_text job names
  pub rows : front ≡ steps_text (traced names) job all_steps answer

-- it prints the lines of the program as they are made, and then the answer, unless the rows are to
-- stand alone
abbrev pub tracing : Bool → Command
tracing alone = record {
  workers = None;
  IsPlan = λ text plan. ⊥;
  HasPlanFault = λ text row kind. ⊥;
  Has = λ job. ⊤;
  Lacks = λ job_text job fault. ⊥;
  InPieces = ⊤;
  Comes = λ job_text job plan. Showing alone (TellsMadeLines job_text job) job_text job;
}
