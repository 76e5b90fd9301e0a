-- The law of answers.
use Rattle.std.specs.Prelude.{◌≡◌, ℕ, ◌⊎◌, List}
use Rattle.pram_job.specs.Job.{JobData}
use Rattle.pram_step.specs.declared.answer.RunAnswer.{RunAnswer}
use Rattle.pram_step.specs.Runs.{IsAnswer}
use Rattle.pardo_program.specs.Lawful.{IsProgram}
use Rattle.pardo_program.specs.Program.{ProgramData}
use Rattle.pardo_flat.specs.Flat.{flat}
use Rattle.pardo_job.specs.Carries.{Carries}
use Rattle.pardo_job.specs.Lines.{job_of}
use Rattle.pardo_job.specs.Meaning.{after}
use Rattle.pardo_job.specs.Printed.{IsConflictText, IsEndText}
use Rattle.pardo_job.specs.Runs.{IsProgramEnd}
use Rattle.pardo_job.specs.declared.ended.Lines.{Lines}
use Rattle.pardo_job.specs.Ends.{EndsIn}
use Rattle.pardo_answers.specs.Named.{named_answer}
use Rattle.pardo_answers.specs.Records.{end_records, recorded_answer}

-- the text is the answer of the program, whose job makes so many steps
abbrev pub IsAnswerText : ProgramData → ℕ → List ℕ → Type 0
IsAnswerText program steps text = IsEndText program steps text ⊎ IsConflictText program text

-- The job is the program's, and carries its run.
pub record IsCarrying (program : ProgramData) (job : JobData) (line_of : ℕ → ℕ) : Type 0 where
  pub lawful : IsProgram program
  pub made : job ≡ job_of (flat program) job.steps
  pub carries : Carries program job line_of

-- the text has the end of the program as records
abbrev pub AreEndRecords : ProgramData → List ℕ → Type 0
AreEndRecords program text = (n : ℕ) × IsProgramEnd program n
    × (text ≡ end_records program (after program n).cells (after program n).gone)

-- the text is the answer of the program, its end as records
abbrev pub IsRecordedAnswer : ProgramData → List ℕ → Type 0
IsRecordedAnswer program text = AreEndRecords program text ⊎ IsConflictText program text

-- What is printed by names is the answer of the program by its meaning.
abbrev pub PrintedAnswersAreThePrograms : Type 0
PrintedAnswersAreThePrograms =
    (program : ProgramData) (job : JobData) (line_of : ℕ → ℕ) (answer : RunAnswer) (lines : Lines) →
    IsCarrying program job line_of → IsAnswer job answer → EndsIn job line_of lines →
    IsAnswerText program job.steps (named_answer program job.steps lines answer)

-- So it is where its end is recorded.
abbrev pub RecordedAnswersAreThePrograms : Type 0
RecordedAnswersAreThePrograms =
    (program : ProgramData) (job : JobData) (line_of : ℕ → ℕ) (answer : RunAnswer) (lines : Lines) →
    IsCarrying program job line_of → IsAnswer job answer → EndsIn job line_of lines →
    IsRecordedAnswer program (recorded_answer program job.steps lines answer)
