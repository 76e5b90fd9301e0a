-- In which lines of a program's text its job ends.
use Rattle.std.specs.Prelude.{◌≡◌, ℕ, ◌+◌, ◌<◌, List, Option, None, slice_index_or}
use Rattle.pram_job.specs.Job.{JobData}
use Rattle.pram_step.specs.declared.answer.Fault.{Fault}
use Rattle.pram_step.specs.Runs.{IsAnswer, IsFault, IsReached}
use Rattle.pardo_job.specs.Carries.{ComesFrom}
use Rattle.pardo_job.specs.Leaving.{GoneIn}
use Rattle.pardo_job.specs.declared.ended.Ended.{Ended}
use Rattle.pardo_job.specs.declared.ended.Lines.{Lines}

-- the line in which processor i left, if it did
abbrev pub gone_in : List (Option ℕ) → ℕ → Option ℕ
gone_in gone i = slice_index_or gone i None

-- Each processor is gone in its line after t steps, or is there.
abbrev pub AreGone : JobData → (ℕ → ℕ) → ℕ → (ℕ → Option ℕ) → Type 0
AreGone job line_of t gone = (i : ℕ) → i < job.procs → GoneIn job line_of t i (gone i)

-- the conflict comes from the line of this number
pub record IsDisputedIn (job : JobData) (line_of : ℕ → ℕ) (fault : Fault) (number : ℕ)
    : Type 0 where
  pub before : ℕ
  pub step : fault.step ≡ before + 1
  pub comes : ComesFrom job line_of before fault.first number

-- These are the lines of the job: of its processors where all its steps are made, and of its
-- conflict.
pub record EndsIn (job : JobData) (line_of : ℕ → ℕ) (lines : Lines) : Type 0 where
  pub gone : IsReached job job.steps → AreGone job line_of job.steps (gone_in lines.gone.items)
  pub disputed : (fault : Fault) → IsFault job fault →
      IsDisputedIn job line_of fault lines.disputed

-- This is the answer of the job, and these are its lines.
pub record HasEnded (job : JobData) (line_of : ℕ → ℕ) (ended : Ended) : Type 0 where
  pub answers : IsAnswer job ended.answer
  pub ends_in : EndsIn job line_of ended.lines
