-- The job of a text, of the machine or of a program.
use Rattle.std.specs.Prelude.{◌≡◌, ℕ, true, false, List, Ok, ⊤, slice_index}
use Rattle.pram_job.specs.Job.{JobData}
use Rattle.pram_text.specs.Text.{Spells, IsRefusal as IsTextRefusal}
use Rattle.pardo_program.specs.Program.{ProgramData}
use Rattle.pardo_text.specs.Reading.{program_of}
use Rattle.pardo_job.specs.Compiled.{IsCompiled}
use Rattle.pardo_job.specs.Drafts.{IsDraft}
use Rattle.pardo_job.specs.Refusals.{IsProgramRefusal, most_steps}
use Rattle.pardo_answers.specs.Language.{is_program}
use Rattle.library_boards.specs.declared.job.OpenFault.{OpenFault}
use Rattle.library_boards.specs.declared.job.OpenFault.TheVariants.{Text, Program, Memory}

-- the text is one of the machine, and spells the job
pub record IsMachineJob (text : List ℕ) (job : JobData) : Type 0 where
  pub is_none : is_program text ≡ false
  pub spells : Spells text job

-- the text is a program, and the job is the program's
pub record IsProgramJob (text : List ℕ) (job : JobData) : Type 0 where
  pub is_one : is_program text ≡ true
  pub program : ProgramData
  pub reads : program_of text ≡ Ok program
  pub numbers : List ℕ
  pub makes : IsCompiled program job (slice_index numbers)

pub data IsJobOf (text : List ℕ) (job : JobData) : Type 0 where
  of_machine : IsMachineJob text job → IsJobOf text job
  of_program : IsProgramJob text job → IsJobOf text job

-- the text is a program, and the job is the program's with as many steps as one may take
pub record IsDraftedJob (text : List ℕ) (job : JobData) : Type 0 where
  pub is_one : is_program text ≡ true
  pub program : ProgramData
  pub reads : program_of text ≡ Ok program
  pub draft : JobData
  pub numbers : List ℕ
  pub made : IsDraft program draft numbers
  pub is : job ≡ record draft { steps = most_steps draft }

-- that of a text whose steps nobody counts
pub data IsUncountedJobOf (text : List ℕ) (job : JobData) : Type 0 where
  of_machine : IsMachineJob text job → IsUncountedJobOf text job
  of_program : IsDraftedJob text job → IsUncountedJobOf text job

-- why it has none
abbrev pub IsNoJob : List ℕ → OpenFault → Type 0
IsNoJob text (Text fault) =
    (is_program text ≡ false) × IsTextRefusal text fault.line fault.kind
IsNoJob text (Program refusal) = (is_program text ≡ true) × IsProgramRefusal text refusal
IsNoJob text Memory = ⊤
