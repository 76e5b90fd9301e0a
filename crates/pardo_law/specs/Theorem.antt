-- The theorem of the language: the job of a program carries its run.
use Rattle.std.specs.Prelude.{◌≡◌, ℕ, ◌<◌, slice_index, Option, Some, None}
use Rattle.pram_job.specs.Job.{JobData}
use Rattle.pram_step.specs.declared.answer.RunAnswer.{RunAnswer}
use Rattle.pram_step.specs.declared.answer.RunAnswer.TheVariants.{Final, Conflict, Unfinished}
use Rattle.pram_step.specs.Runs.{IsAnswer}
use Rattle.pram_job.specs.declared.instr.Rule.{Rule}
use Rattle.pardo_program.specs.Lawful.{IsProgram}
use Rattle.pardo_program.specs.Nested.{IsNested}
use Rattle.pardo_program.specs.Program.{ProgramData}
use Rattle.pardo_flat.specs.Layouts.{program_layout}
use Rattle.pardo_job.specs.Carries.{Carries}
use Rattle.pardo_job.specs.Compiled.{IsCompiled}
use Rattle.pram_step.specs.declared.answer.Dispute.{Dispute}
use Rattle.pardo_job.specs.Laws.{by_rule}
use Rattle.pardo_job.specs.Meaning.{after}
use Rattle.pardo_job.specs.Runs.{IsProgramEnd, IsProgramConflict}

-- What the compiler makes of a lawful program whose blocks are nested carries it.
abbrev pub JobsCarryPrograms : Type 0
JobsCarryPrograms = (program : ProgramData) (job : JobData) (line_of : ℕ → ℕ) →
    IsProgram program → IsNested program.lines → IsCompiled program job line_of →
    Carries program job line_of

-- ---- the run

-- By every rule the states are the same, as far as there are some.
abbrev pub RuleChangesNoRun : Type 0
RuleChangesNoRun = (program : ProgramData) (rule : Rule) (n : ℕ) →
    after (by_rule rule program) n ≡ after program n

-- ---- the answer

-- the program is over after n lines, or the line after them is the first that is against the rule
abbrev pub ProgramEndsIn : ProgramData → ℕ → Option Dispute → Type 0
ProgramEndsIn program n None = IsProgramEnd program n
ProgramEndsIn program n (Some dispute) = IsProgramConflict program n dispute

-- A run ends once, and in one way.
abbrev pub RunsEndOnce : Type 0
RunsEndOnce = (program : ProgramData) (n m : ℕ) (end other : Option Dispute) →
    ProgramEndsIn program n end → ProgramEndsIn program m other → (n ≡ m) × (end ≡ other)

-- the machine's answer is the program's: the shared cells at its end, or its conflict
abbrev pub IsAnswerOf : ProgramData → RunAnswer → Type 0
IsAnswerOf program (Final cells) = (n : ℕ) × IsProgramEnd program n
    × ((cell : ℕ) → cell < (program_layout program).shared →
    slice_index cells cell ≡ (after program n).cells cell)
IsAnswerOf program (Conflict fault) = (n : ℕ) × IsProgramConflict program n
    (record { cell = fault.cell; first = fault.first; second = fault.second })
IsAnswerOf program (Unfinished step) = ⊥

abbrev pub AnswersAreThePrograms : Type 0
AnswersAreThePrograms = (program : ProgramData) (job : JobData) (line_of : ℕ → ℕ) →
    IsProgram program → IsNested program.lines → IsCompiled program job line_of →
    (answer : RunAnswer) → IsAnswer job answer → IsAnswerOf program answer
