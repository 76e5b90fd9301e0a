-- What printing the steps of a job says of the sink, by its bytes before and after.
use Rattle.std.specs.Prelude.{ℕ, List, Option}
use Rattle.std.specs.Io.KnownBytes.{Appends}
use Rattle.pram_job.specs.Job.{JobData}
use Rattle.pram_step.specs.Runs.{IsAnswer}
use Rattle.pram_step.specs.declared.answer.RunAnswer.{RunAnswer}
use Rattle.pram_step.specs.declared.answer.RunAnswer.TheVariants.{Final, Conflict, Unfinished}
use Rattle.pram_streams.specs.Transfer.{AppendsBeginning}
use Rattle.pram_rows.specs.StepRows.{StepRows, window_rows}
use Rattle.pram_rows.specs.declared.window.Window.{Window}

-- the last step of a job with this answer: that of its conflict, if it has one
abbrev pub last_step : JobData → RunAnswer → ℕ
last_step job (Final cells) = job.steps
last_step job (Conflict fault) = fault.step
last_step job (Unfinished step) = step

-- the rows of a window of a job with this answer
abbrev pub steps_text : StepRows → JobData → Window → RunAnswer → List ℕ
steps_text rows job window answer =
    window_rows rows job window.from window.to (last_step job answer)

-- This is the job's answer, and the sink took the rows of its steps.
pub record TakesSteps (rows : StepRows) (job : JobData) (window : Window)
    (sink sink' : Option (List ℕ)) (answer : RunAnswer) : Type 0 where
  pub answers : IsAnswer job answer
  pub prints : Appends sink sink' (steps_text rows job window answer)

-- The sink took a beginning of these.
pub record BeginsSteps (rows : StepRows) (job : JobData) (window : Window)
    (sink sink' : Option (List ℕ)) : Type 0 where
  pub answer : RunAnswer
  pub answers : IsAnswer job answer
  pub prints : AppendsBeginning sink sink' (steps_text rows job window answer)
