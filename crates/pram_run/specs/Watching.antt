-- What a watch lists.
use Rattle.std.specs.Prelude.{◌≡◌, ◌≤◌, ◌+◌, ◌⊎◌, ℕ, List, [], ◌∷◌, length, map, slice_index}
use Rattle.std.specs.Prelude.{All, IfOk, OnOk}
use Rattle.std.specs.List.{repeat}
use Rattle.std.specs.List.Sorted.{IsNonDecreasingBy}
use Rattle.pram_step.specs.declared.answer.RunAnswer.{RunAnswer}
use Rattle.pram_step.specs.Runs.{IsReached, state_after}
use Rattle.walkx.specs.declared.operation.Reading.TheVariants.{At}
use Rattle.lawful_walk.specs.Seen.{KnowsStep}
use Rattle.pram_board.specs.declared.task.Task.{Task}
use Rattle.stop_plan.specs.Plan.{PlanData}
use Rattle.pram_board.specs.Seats.{SeatData, WasRead, unites}
use Rattle.pram_run.specs.Heard.{Ended, HasRunWith}
use Rattle.pram_run.specs.Obeyed.{AllObeyed, HasLooked, IsAnswered}
use Rattle.pram_run.specs.declared.shared.Shared.{Shared}
use Rattle.pram_run.specs.declared.sight.Sight.{Sight}

-- the cells that were read, in order
abbrev pub cells_seen : List Sight → List ℕ
cells_seen sights = map (λ sight. sight.cell) sights

-- the reads of a list, one after the other, each lawful, from one seat's record to the one after
-- them
abbrev pub HasRead : Task → SeatData → List Sight → SeatData → Type 0
HasRead task before [] later = later ≡ before
HasRead task before (sight ∷ sights) later = (next : SeatData)
    × WasRead task before next sight.cell (At sight.step sight.value)
    × HasRead task next sights later

-- what the cell holds after the step, which is reached
pub record IsTrueSight (task : Task) (sight : Sight) : Type 0 where
  pub reached : IsReached task.job sight.step
  pub value : sight.value ≡ slice_index (state_after task.job sight.step) sight.cell

-- The list has so many rounds through the cells, in order, from one seat to a later one: each
-- entry is a read, so it tells what its cell holds after its step; no step is below one that the
-- seat before knew, and the steps never fall.
pub record IsWatch (task : Task) (cells : List ℕ) (rounds : ℕ) (before : SeatData)
    (sights : List Sight) (later : SeatData) : Type 0 where
  pub listed : cells_seen sights ≡ repeat rounds cells
  pub reads : HasRead task before sights later
  pub tells : All (λ sight. IsTrueSight task sight) sights
  pub least : All (λ sight. (known : ℕ) → KnowsStep task.layout before.record_of known →
      known ≤ sight.step) sights
  pub rises : IsNonDecreasingBy (λ sight. sight.step) sights

-- The plan's workers obeyed it from the given seat, and a reader beside them made this watch from
-- it; the seat that joins theirs, the reader's last, looked at the board, which told the answer.
pub record HasWatched (task : Task) (plan : PlanData) (cells : List ℕ) (rounds : ℕ)
    (given : SeatData) (sights : List Sight) (later : SeatData) (answer : RunAnswer)
    : Type 0 where
  pub seat : SeatData
  pub obeyed : AllObeyed task plan.rows given plan.workers seat
  pub reader : SeatData
  pub watch : IsWatch task cells rounds given sights reader
  pub answered : IsAnswered task plan (unites seat reader) later answer

-- Beside so many workers of the plan a reader did this, and then looked at the board: from the
-- given seat if these were all, and else from one that had looked at it.
pub record ReadsBeside (plan : PlanData) (given : SeatData) (Reads : SeatData → SeatData → Type 0)
    (started : ℕ) (looker : SeatData) : Type 0 where
  pub before : SeatData
  pub waited : HasLooked given before
  pub at_once : started ≡ plan.workers → before ≡ given
  pub reader : SeatData
  pub reads : Reads before reader
  pub looks : HasLooked reader looker

-- A run with a reader that did this.
abbrev pub HasReadBeside : Task → PlanData → SeatData → SeatData → RunAnswer →
    (SeatData → SeatData → Type 0) → Type 0
HasReadBeside task plan given later answer Reads =
    HasRunWith (ReadsBeside plan given Reads) task plan given later answer

-- A run with a reader that did this, whose answer was given if memory was.
pub record HasWatchedWith (task : Task) (plan : PlanData) (given later : SeatData)
    (Reads : SeatData → SeatData → Type 0) (ended : Ended) : Type 0 where
  pub answer : RunAnswer
  pub ran : HasReadBeside task plan given later answer Reads
  pub given_if : IfOk ended (λ found. found ≡ answer)

-- A reader read so from a seat to a later one, and what it was then heard how the run ended.
pub record ReadsAndHears {P H : Type 0} (Reads : SeatData → SeatData → P → Type 0)
    (Hears : P → Ended → H → Type 0) (ended : Ended) (heard : H) (before later : SeatData)
    : Type 0 where
  pub after : P
  pub reads : Reads before later after
  pub hears : Hears after ended heard

-- The reader heard that the run is out of memory, and did not read; or it read beside the plan's
-- workers, and then heard how the run ended.
abbrev pub ReadsUnlessRefused : {P H : Type 0} → Task → PlanData → SeatData → P →
    (SeatData → SeatData → P → Type 0) → (P → Ended → H → Type 0) → SeatData → Ended → H → Type 0
ReadsUnlessRefused task plan given reader Reads Hears later ended heard =
    (OnOk ended ⊥ × Hears reader ended heard)
    ⊎ HasWatchedWith task plan given later (ReadsAndHears Reads Hears ended heard) ended

-- how many reads wait at most: a piece, and a round
abbrev pub most_waiting : {G : Type 0} → Shared G → ℕ
most_waiting shared = shared.piece + length shared.cells.now
