-- A program before it is run, and its job once the number of its steps is known.
use Rattle.std.specs.Prelude.{◌≡◌, ℕ, true, List, Some, Ok}
use Rattle.pram_job.specs.Job.{JobData}
use Rattle.pardo_text.specs.Reading.{program_of}
use Rattle.pardo_job.specs.Drafts.{ArePlacesOf, IsDraft}
use Rattle.pardo_job.specs.declared.compiler.Draft.{Draft}
use Rattle.pardo_answers.specs.Language.{is_program}
use Rattle.naming.specs.Names.{AreNames, NamingData}

-- the draft is that of the program that this text is
pub record IsDrafted (text : List ℕ) (draft : Draft) : Type 0 where
  pub is_one : is_program text ≡ true
  pub reads : program_of text ≡ Ok draft.program
  pub made : IsDraft draft.program draft.job draft.numbers.items
  pub begins : ArePlacesOf draft.program draft.places.items

-- the job is the drafted one with as many steps as it needs, and its answers are told by this
pub record IsCounted (text : List ℕ) (draft : Draft) (job : JobData) (naming : NamingData)
    : Type 0 where
  pub job_is : job ≡ record draft.job { steps = job.steps }
  pub names : AreNames text job (Some naming)
