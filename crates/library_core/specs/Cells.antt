-- The final memory of a text's job.
use Rattle.std.specs.Prelude.{◌≡◌, ℕ, List, []}
use Rattle.pram_job.specs.Job.{JobData}
use Rattle.pram_step.specs.Runs.{IsAnswer}
use Rattle.pram_step.specs.declared.answer.RunAnswer.{RunAnswer}
use Rattle.pram_step.specs.declared.answer.RunAnswer.TheVariants.{Final}
use Rattle.pram_commands.specs.Did.{status_of}
use Rattle.naming.specs.Names.{Means}
use Rattle.pram_commands.specs.Plain.{checking}
use Rattle.library_core.specs.Serving.{IsUndone}
use Rattle.library_core.specs.declared.fault.CallFault.{CallFault}
use Rattle.library_core.specs.declared.fault.CallFault.TheVariants as call

-- the cells of an answer, which a conflict has not
abbrev pub cells_in_answer : RunAnswer → List ℕ
cells_in_answer (Final cells) = cells
cells_in_answer _ = []

-- The text means a job, and this is its answer.
pub record IsTextsAnswer (text : List ℕ) (answer : RunAnswer) : Type 0 where
  pub job : JobData
  pub means : Means text job
  pub answers : IsAnswer job answer

-- These are the cells of the answer of a text, and its status.
pub record AreCells (text cells : List ℕ) (status : ℕ) : Type 0 where
  pub answer : RunAnswer
  pub answers : IsTextsAnswer text answer
  pub are : cells ≡ cells_in_answer answer
  pub is : status ≡ status_of answer

-- the text means no job, or is too long, or memory ran out
abbrev pub MeansNoJob : (text : List ℕ) → CallFault → Type 0
MeansNoJob text (call.Command fault) = IsUndone checking text [] fault
MeansNoJob text _ = ⊥
