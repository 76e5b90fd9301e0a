-- The laws of answers of programs, and of printed jobs, from bytes to bytes.
use Rattle.std.specs.Prelude.{◌≡◌, ◌⊎◌, ℕ, List, Option, Some, Ok, true, false}
use Rattle.pram_job.specs.Job.{JobData}
use Rattle.pram_step.specs.declared.answer.RunAnswer.{RunAnswer}
use Rattle.pram_step.specs.declared.answer.RunAnswer.TheVariants.{Unfinished}
use Rattle.stop_plan.specs.Plan.{PlanData, StopsAll}
use Rattle.pardo_program.specs.Program.{ProgramData}
use Rattle.pardo_text.specs.Reading.{program_of}
use Rattle.pardo_answers.specs.Language.{is_program}
use Rattle.pardo_answers.specs.Laws.{IsAnswerText, IsRecordedAnswer}
use Rattle.naming.specs.Names.{IsMachines, Means}
use Rattle.pram_commands.specs.Plain.{no_plan, plainly}
use Rattle.pram_commands.specs.Texts.{compiling}
use Rattle.pram_commands.specs.Threads.{running}
use Rattle.pram_commands.specs.Why.{in_lines, in_records}

-- The text is a program, and these bytes are its answer by its meaning, with the steps of the job.
pub record IsProgramsAnswer (text : List ℕ) (job : JobData) (bytes : List ℕ) : Type 0 where
  pub program : ProgramData
  pub reads : program_of text ≡ Ok program
  pub answers : IsAnswerText program job.steps bytes

-- What `plain` prints of a program is its answer.
abbrev pub PlainPrintsTheProgramsAnswer : Type 0
PlainPrintsTheProgramsAnswer = (text : List ℕ) (job : JobData) (bytes : List ℕ)
    (answer : Option RunAnswer) → is_program text ≡ true →
    (plainly (in_lines false)).Comes text job no_plan bytes answer → IsProgramsAnswer text job bytes

-- the plan stops every worker, and the run ended after this step
pub record IsCutOff (plan : PlanData) (answer : Option RunAnswer) : Type 0 where
  pub stops : StopsAll plan
  pub step : ℕ
  pub is : answer ≡ Some (Unfinished step)

-- What a run on threads prints of a program is its answer, or the plan stops every worker.
abbrev pub RunsPrintTheProgramsAnswer : Type 0
RunsPrintTheProgramsAnswer = (text : List ℕ) (job : JobData) (plan : PlanData) (workers : ℕ)
    (bytes : List ℕ) (answer : Option RunAnswer) → is_program text ≡ true →
    (running (in_lines false) workers).Comes text job plan bytes answer →
    IsProgramsAnswer text job bytes ⊎ IsCutOff plan answer

-- The text is a program, and these bytes are its end as records, or its conflict, by its meaning.
pub record IsProgramsRecords (text : List ℕ) (bytes : List ℕ) : Type 0 where
  pub program : ProgramData
  pub reads : program_of text ≡ Ok program
  pub answers : IsRecordedAnswer program bytes

-- What `plain` prints as records of a program is its end.
abbrev pub PlainRecordsTheProgramsEnd : Type 0
PlainRecordsTheProgramsEnd = (text : List ℕ) (job : JobData) (bytes : List ℕ)
    (answer : Option RunAnswer) → is_program text ≡ true →
    (plainly in_records).Comes text job no_plan bytes answer → IsProgramsRecords text bytes

-- What a run on threads prints as records of a program is its end, or the plan stops every worker.
abbrev pub RunsRecordTheProgramsEnd : Type 0
RunsRecordTheProgramsEnd = (text : List ℕ) (job : JobData) (plan : PlanData) (workers : ℕ)
    (bytes : List ℕ) (answer : Option RunAnswer) → is_program text ≡ true →
    (running in_records workers).Comes text job plan bytes answer →
    IsProgramsRecords text bytes ⊎ IsCutOff plan answer

-- The bytes are a text of the machine, and this is its one job.
pub record IsTextOf (bytes : List ℕ) (job : JobData) : Type 0 where
  pub is : IsMachines bytes job
  pub only : (other : JobData) → Means bytes other → other ≡ job

-- What `compile` prints of a text is a text of the machine, whose one job is the one that the text
-- means.
abbrev pub CompilePrintsTheSameJob : Type 0
CompilePrintsTheSameJob = (text : List ℕ) (job : JobData) (bytes : List ℕ)
    (answer : Option RunAnswer) → Means text job →
    compiling.Comes text job no_plan bytes answer → IsTextOf bytes job
