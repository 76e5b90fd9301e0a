-- What the command comes to that prints a job as a text of the machine.
use Rattle.std.specs.Prelude.{◌≡◌, ℕ, List, Option, None}
use Rattle.job_text.specs.Printed.{text_of}
use Rattle.pram_job.specs.Job.{JobData}
use Rattle.pram_step.specs.declared.answer.RunAnswer.{RunAnswer}
use Rattle.naming.specs.ArrayNames.{array_words}
use Rattle.pram_commands.specs.Did.{Command}
use Rattle.naming.specs.Names.{AreNames, NamingData}
use Rattle.pram_commands.specs.Plain.{on_job}

-- the text is that of the job, its arrays by the names of its program, and no answer is given
pub record TellsText (job_text : List ℕ) (job : JobData) (text : List ℕ)
    (answer : Option RunAnswer) : Type 0 where
  pub names : Option NamingData
  pub are_names : AreNames job_text job names
  pub prints : text ≡ text_of (array_words names) job
  pub gives : answer ≡ None

-- it prints that text
abbrev pub compiling : Command
compiling = on_job TellsText
