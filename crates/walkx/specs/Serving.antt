-- What callers of the code carry from call to call: the worker or reader goes with the board, and
-- its code stands where it does.
use Rattle.std.specs.Prelude.{◌≡◌, ℕ, ◌<◌, Option, Some, None, []}
use Rattle.pram_job.specs.Job.{JobData}
use Rattle.pram_words.specs.Words.{LayoutData}
use Rattle.walkx.specs.declared.operation.Op.{Op}
use Rattle.walkx.specs.Records.{Record, Knows}
use Rattle.walkx.specs.Walk.{Walking, Fits, IsGoing, ask_of}
use Rattle.walkx.specs.Inner.Workers.{WorkerData}
use Rattle.walkx.specs.Inner.Glances.{ReaderData, StandsAtGlance}

-- the worker is held at this operation, or at the start of a script
abbrev pub IsHeldAt : JobData → LayoutData → Walking → Option Op → Type 0
IsHeldAt job layout worker None = IsGoing worker.now × (worker.heard ≡ [])
IsHeldAt job layout worker (Some op) = op ≡ ask_of job layout worker

pub record Serves (job : JobData) (layout : LayoutData) (worker : WorkerData) : Type 0 where
  pub fits : Fits job layout worker.walking
  pub held : IsHeldAt job layout worker.walking worker.held_op

-- A worker of this number that stands so from the start: on every board that it is a worker of it
-- serves, and every record knows it.
pub record IsNewWorker (number : ℕ) (walking : Walking) (worker : WorkerData) : Type 0 where
  pub value : worker.walking ≡ walking
  pub serves : (job : JobData) (layout : LayoutData) → number < layout.workers →
      Serves job layout worker
  pub known : (job : JobData) (layout : LayoutData) (past : Record) →
      number < layout.workers → Knows job layout past worker.walking

pub record FollowsScript (layout : LayoutData) (reader : ReaderData) : Type 0 where
  pub cell : reader.looking.cell < layout.cells
  pub stands : StandsAtGlance layout reader
