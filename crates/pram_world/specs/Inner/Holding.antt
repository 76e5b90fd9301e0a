-- What holds of a world between any two events.
use Rattle.std.specs.Prelude.{◌≡◌, ℕ, ◌<◌, ◌≤◌, List, map, slice_get, Some}
use Rattle.std.specs.List.{range_with_len}
use Rattle.pram_job.specs.Job.{JobData}
use Rattle.pram_words.specs.Words.{LayoutData}
use Rattle.walkx.specs.declared.operation.Op.{Op}
use Rattle.walkx.specs.declared.operation.Op.TheVariants.{Load, Store, Max, Swap, Over}
use Rattle.walkx.specs.Operations.{answer}
use Rattle.walkx.specs.Records.{Record, Knows}
use Rattle.walkx.specs.Inner.Workers.{WorkerData}
use Rattle.walkx.specs.Serving.{Serves}
use Rattle.walkx.specs.Walk.{Walking, Fits, started}
use Rattle.lawful_walk.specs.Board.{Stands}
use Rattle.lawful_walk.specs.Moments.{Backed}
use Rattle.pram_world.specs.declared.event.Effect.{Effect}
use Rattle.pram_world.specs.declared.world.Runner.{Runner}
use Rattle.pram_world.specs.declared.world.Runner.TheVariants as runner
use Rattle.pram_world.specs.Worlds.{Body, walks, stopped, number, WorldData, Walks, effect_of}

abbrev pub Fitting : JobData → LayoutData → Walking → Type 0
Fitting = Fits

-- The words stand, and bear out one record of all steps, which knows every worker; each body has
-- the number of a worker.
pub record WorldHolds (world : WorldData) (made : Record) : Type 0 where
  pub stands : Stands world.job world.layout world.words
  pub backed : Backed world.job world.layout made world.words
  pub known : (body : ℕ) (walking : Walking) → Walks world body walking →
      Knows world.job world.layout made walking × Fitting world.job world.layout walking
  pub numbers : (at : ℕ) (body : Body) → slice_get world.bodies at ≡ Some body →
      number body < world.layout.workers

-- the words stand, and bear out some record of all steps
pub record Held (world : WorldData) : Type 0 where
  pub made : Record
  pub holds : WorldHolds world made

-- what a body is to contracts
abbrev pub body_of_runner : Runner → Body
body_of_runner (runner.Walks worker) = walks worker.walking
body_of_runner (runner.Stopped worker) = stopped worker

abbrev pub world_of : JobData → LayoutData → List ℕ → List Runner → WorldData
world_of job layout words runners =
    record { job = job; layout = layout; words = words; bodies = map body_of_runner runners }

-- the bodies keep their stages
abbrev pub AllServe : JobData → LayoutData → List Runner → Type 0
AllServe job layout runners =
    (body : ℕ) (worker : WorkerData) → slice_get runners body ≡ Some (runner.Walks worker) →
    Serves job layout worker

pub record IsWorld (job : JobData) (layout : LayoutData) (words : List ℕ) (runners : List Runner) :
    Type 0 where
  pub made : Record
  pub holds : WorldHolds (world_of job layout words runners) made
  pub serve : AllServe job layout runners

-- an operation on one of the first so many words
abbrev pub IsOnBoard : ℕ → Op → Type 0
IsOnBoard most (Load word) = word < most
IsOnBoard most (Store word value) = word < most
IsOnBoard most (Max word value) = word < most
IsOnBoard most (Swap word old new) = word < most
IsOnBoard most (Over ended) = Unit {0}

-- what a worker hears of a step that had this effect
abbrev pub HearsEffect : Effect → ℕ → Type 0
HearsEffect effect found = (words : List ℕ) (op : Op) → effect ≡ effect_of words op →
    found ≡ answer words op

-- newly started workers, one for each number below the count, on any board that has them
pub record AreStarted (workers : ℕ) (runners : List Runner) : Type 0 where
  pub bodies : map body_of_runner runners ≡ map (λ worker. walks (started worker))
      (range_with_len 0 workers)
  pub serve : (job : JobData) (layout : LayoutData) → workers ≤ layout.workers →
      AllServe job layout runners
