-- What a submission that passes does, by its meaning.
use Rattle.std.specs.Prelude.{◌≡◌, ◌+◌, ◌<◌, ℕ, true, false, List, All, IfSome, Some, None, Ok}
use Rattle.std.specs.Prelude.{decimal, slice_get, take}
use Rattle.pram_job.specs.Job.{JobData}
use Rattle.pram_cost.specs.Models.{AcceptsSteps}
use Rattle.pardo_program.specs.Program.{ProgramData}
use Rattle.pardo_text.specs.Reading.{program_of}
use Rattle.pardo_job.specs.Compiled.{IsCompiled}
use Rattle.pardo_job.specs.Meaning.{after}
use Rattle.pardo_job.specs.Runs.{IsProgramEnd}
use Rattle.pardo_job.specs.Times.{operations_to, time_to}
use Rattle.exercise_text.specs.Submissions.{code_lines, judged_text, missing_line}
use Rattle.exercise_judge.specs.Trials.{AreHeld, KeepsBar, Meets, TrialData}
use Rattle.exercise_judge.specs.Verdicts.{IsCertain}
use Rattle.exercise_judge.specs.Wrongs.{IsWrong}
use Rattle.exercise_judge.specs.declared.verdict.Wrong.{Wrong}
use Rattle.exercise_words.specs.Records.{HasTrials, AreRecorded, IsSaid, IsWhat}
use Rattle.exercise_words.specs.declared.said.Said.{Said}
use Rattle.refusals.specs.declared.refusal.TheConstants.{DONE}

-- nobody is gone after so many lines
abbrev pub KeepsAll : ProgramData → ℕ → Type 0
KeepsAll program n = (i : ℕ) → i < program.procs → (after program n).gone i ≡ None

-- The submission has all given lines, and with the header of the trial it is a program. Its run
-- ends; the names then hold what is wanted, nobody is gone, unless processors may leave, and its
-- time, its operations and its lines are within the bars. So are the steps of its job, which the
-- model accepts.
pub record Solves (trial : TrialData) (submission : List ℕ) : Type 0 where
  pub given : missing_line trial.header submission ≡ None
  pub program : ProgramData
  pub reads : program_of (judged_text trial.header submission) ≡ Ok program
  pub run : ℕ
  pub ends : IsProgramEnd program run
  pub values : AreHeld trial.wanted program (after program run).cells
  pub there : trial.may_leave ≡ false → KeepsAll program run
  pub time : KeepsBar trial.time (time_to program run)
  pub operations : KeepsBar trial.operations (operations_to program run)
  pub lines : KeepsBar trial.lines (code_lines submission)
  pub job : JobData
  pub line_of : ℕ → ℕ
  pub compiled : IsCompiled program job line_of
  pub steps : KeepsBar trial.steps job.steps
  pub model : IfSome trial.model (λ model. AcceptsSteps model job job.steps)

abbrev pub WhatIsMetIsSolved : Type 0
WhatIsMetIsSolved = (trial : TrialData) (submission : List ℕ) → Meets trial submission →
    Solves trial submission

abbrev pub WhatIsSolvedIsMet : Type 0
WhatIsSolvedIsMet = (trial : TrialData) (submission : List ℕ) → Solves trial submission →
    Meets trial submission

-- ---- records

abbrev pub SolvesAll : List TrialData → List ℕ → Type 0
SolvesAll trials submission = All (λ trial. Solves trial submission) trials

-- What is said to have passed solves all trials.
abbrev pub WhatPassedSolves : Type 0
WhatPassedSolves = (trials : List TrialData) (submission : List ℕ) (said : Said) →
    IsSaid trials submission said → said.passed ≡ true → SolvesAll trials submission

-- The submission solves all trials before the one of this number, counted from 1, and not this one:
-- these words say what is wrong, and it is wrong.
pub record Fails (trials : List TrialData) (submission number what : List ℕ) : Type 0 where
  pub before : ℕ
  pub counts : number ≡ decimal (before + 1)
  pub trial : TrialData
  pub is_there : slice_get trials before ≡ Some trial
  pub solves : SolvesAll (take before trials) submission
  pub wrong : Wrong
  pub says : IsWhat trial.hidden wrong what
  pub is_wrong : IsWrong trial submission wrong
  pub unsolved : IsCertain wrong → ¬ Solves trial submission

-- What is said not to have passed fails so.
abbrev pub WhatDidNotPassFails : Type 0
WhatDidNotPassFails = (trials : List TrialData) (submission : List ℕ) (said : Said) →
    IsSaid trials submission said → said.passed ≡ false →
    Fails trials submission said.input.items said.what.items

-- The file gave an exercise, and each other file a submission that solves its trials.
pub record AllSolve (Gives : List ℕ → List ℕ → Type 0) (file : List ℕ) (files : List (List ℕ))
    : Type 0 where
  pub text : List ℕ
  pub gives : Gives file text
  pub trials : List TrialData
  pub has : HasTrials text trials
  pub solve : All (λ other. (submission : List ℕ) × Gives other submission
      × SolvesAll trials submission) files

-- Where the judging of files ends as done, all of them solve the exercise.
abbrev pub DoneWhereAllSolve : (List ℕ → List ℕ → Type 0) → Type 0
DoneWhereAllSolve Gives = (file : List ℕ) (files : List (List ℕ)) (bytes : List ℕ) →
    AreRecorded Gives file files bytes DONE → AllSolve Gives file files
