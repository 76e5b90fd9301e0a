-- What a text is: one of the machine, or a program; and how answers are told by it.
use Rattle.std.specs.Prelude.{◌≡◌, ℕ, Bool, true, false, List, Option, Some, None, Ok, slice_index}
use Rattle.pram_text.specs.InstructionLines.{line_of}
use Rattle.pram_job.specs.Job.{JobData}
use Rattle.pram_text.specs.Text.{Spells}
use Rattle.pram_step.specs.declared.answer.RunAnswer.{RunAnswer}
use Rattle.pram_streams.specs.Printed.{printed}
use Rattle.pardo_program.specs.Program.{ProgramData}
use Rattle.pardo_text.specs.Reading.{program_of}
use Rattle.pardo_job.specs.Compiled.{IsCompiled}
use Rattle.pardo_job.specs.Drafts.{ArePlacesOf}
use Rattle.pardo_job.specs.Ends.{HasEnded}
use Rattle.pardo_answers.specs.Language.{is_program}
use Rattle.pardo_answers.specs.Named.{named_answer}
use Rattle.pardo_answers.specs.Records.{recorded_answer}
use Rattle.pram_rows.specs.Cells.{answer_records}
use Rattle.pardo_job.specs.declared.ended.Ended.{Ended}

-- What the answers of a program are told by: the program, where the code of each of its lines
-- begins, the numbers of the lines that its job's instructions came from, and how the job ends, and
-- in which lines.
pub record NamingData : Type 0 where
  pub program : ProgramData
  pub places : List ℕ
  pub numbers : List ℕ
  pub ended : Ended

-- the text is one of the machine, and spells the job
pub record IsMachines (text : List ℕ) (job : JobData) : Type 0 where
  pub is_none : is_program text ≡ false
  pub spells : Spells text job

-- the text is a program, the job is the program's, and its answers are told by this
pub record IsNaming (text : List ℕ) (job : JobData) (naming : NamingData) : Type 0 where
  pub is_one : is_program text ≡ true
  pub reads : program_of text ≡ Ok naming.program
  pub begins : ArePlacesOf naming.program naming.places
  pub makes : IsCompiled naming.program job (slice_index naming.numbers)
  pub ends : HasEnded job (slice_index naming.numbers) naming.ended

-- what the answers of the job of a text are told by: nothing more where it is the machine's
abbrev pub AreNames : List ℕ → JobData → Option NamingData → Type 0
AreNames text job None = IsMachines text job
AreNames text job (Some naming) = IsNaming text job naming

-- the job of a text
abbrev pub Means : List ℕ → JobData → Type 0
Means text job = (names : Option NamingData) × AreNames text job names

-- the printed answer of a job of so many steps
abbrev pub printed_answer : Option NamingData → RunAnswer → ℕ → List ℕ
printed_answer None answer steps = printed answer steps
printed_answer (Some naming) answer steps =
    named_answer naming.program steps naming.ended.lines answer

-- the same, with its cells as records
abbrev pub recorded : Option NamingData → RunAnswer → ℕ → List ℕ
recorded None answer steps = answer_records answer steps
recorded (Some naming) answer steps =
    recorded_answer naming.program steps naming.ended.lines answer

-- an answer as records, or as it is printed
abbrev pub styled : Bool → Option NamingData → RunAnswer → ℕ → List ℕ
styled false names answer steps = printed_answer names answer steps
styled true names answer steps = recorded names answer steps

-- the number of the line that an instruction came from
abbrev pub line_at : List ℕ → Option NamingData → ℕ → ℕ
line_at text None index = line_of text index
line_at text (Some naming) index = slice_index naming.numbers index
