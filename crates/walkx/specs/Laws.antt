-- What the laws of the walk say.
use Rattle.std.specs.Prelude.{◌≡◌, ℕ, ◌<◌, List, length, None}
use Rattle.pram_job.specs.Job.{JobData}
use Rattle.pram_words.specs.Words.{LayoutData}
use Rattle.walkx.specs.Bound.{told_all, history_of, IsHeard, own_step_bound}
use Rattle.walk_memory.specs.Memory.{IsTrueMemory}
use Rattle.walkx.specs.Records.{Record, after, Knows}
use Rattle.walkx.specs.Walk.{Walking, Fits, IsGoing, HearsAdmitted, HearsPhase, AsksAdmitted}
use Rattle.walkx.specs.Walk.{IsStepOn, ask_of, told, end_of, started, come_back}
use Rattle.walk_memory.specs.Blocks.{IsBoard}

-- those fit that are newly started or come back
abbrev pub NewWorkersFit : Type 0
NewWorkersFit = (job : JobData) (layout : LayoutData) (number : ℕ) → number < layout.workers →
    Fits job layout (started number) × Fits job layout (come_back number)

-- each admitted answer leaves a worker that fits
abbrev pub AnswersKeepFit : Type 0
AnswersKeepFit =
    (job : JobData) (layout : LayoutData) (worker : Walking) (found : ℕ) → IsBoard job layout →
    Fits job layout worker → HearsAdmitted job layout (ask_of job layout worker) found →
    Fits job layout (told job layout worker found)

-- a record that knows a worker knows it with the next answer, once it has the step; a root has to
-- be a phase of the form, which in the compact form each number is, and what it then remembers true
abbrev pub KnownStayKnown : Type 0
KnownStayKnown =
    (job : JobData) (layout : LayoutData) (past : Record) (worker : Walking) (found : ℕ) →
    IsBoard job layout → Fits job layout worker → Knows job layout past worker →
    HearsPhase layout (ask_of job layout worker) found →
    IsTrueMemory job (told job layout worker found).memory →
    Knows job layout (after past (ask_of job layout worker) found) (told job layout worker found)

-- each operation of a worker is on the board, and admitted
abbrev pub EachOperationIsAdmitted : Type 0
EachOperationIsAdmitted =
    (job : JobData) (layout : LayoutData) (worker : Walking) → IsBoard job layout →
    Fits job layout worker → AsksAdmitted job layout (ask_of job layout worker)

-- one that is not over asks for an atomic step on a word of the board
abbrev pub WhoIsGoingSteps : Type 0
WhoIsGoingSteps = (job : JobData) (layout : LayoutData) (worker : Walking) →
    IsBoard job layout → Fits job layout worker →
    end_of worker.now ≡ None → IsStepOn layout (ask_of job layout worker)

-- A worker that is still going has heard fewer answers than the bound, whatever it heard, if only
-- it may be heard.
abbrev pub OwnStepsAreBounded : Type 0
OwnStepsAreBounded =
    ((job : JobData) (layout : LayoutData) (worker : Walking) → IsBoard job layout →
    Fits job layout worker →
    (answers : List ℕ) → IsGoing (told_all job layout worker answers).now →
    IsHeard job layout worker.number (history_of job layout worker answers) →
    length answers < own_step_bound job)
    × NewWorkersFit
