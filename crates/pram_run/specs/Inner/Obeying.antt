-- What the threads of a run give back.
use Rattle.std.specs.Prelude.{◌≡◌, ◌<◌, ◌⊎◌, ℕ, true, List}
use Rattle.lawful_walk.specs.Seen.{BeginsWith}
use Rattle.stop_plan.specs.declared.plan.Row.{Row}
use Rattle.stop_plan.specs.Plan.{PlanData, stops}
use Rattle.pram_board.specs.Seats.{SeatData}
use Rattle.pram_board.specs.declared.task.Task.{Task}
use Rattle.pram_run.specs.Obeyed.{AllObeyed, ObeysAnew}
use Rattle.pram_run.specs.Running.{ShowsEnd}
use Rattle.pram_run.specs.declared.runner.Obeyed.{Obeyed}
use Rattle.pram_run.specs.declared.watcher.Watched.{Watched}

-- a seat of the same board, each part of whose record begins with that of the earlier one
pub record IsContinued (before after : SeatData) : Type 0 where
  pub desk : after.desk ≡ before.desk
  pub begins : BeginsWith before.record_of after.record_of

-- the seat shows the end, unless the rows stop the worker
abbrev pub EndsOrStops : List Row → ℕ → SeatData → Type 0
EndsOrStops rows worker seat = ShowsEnd seat.desk.task seat.record_of ⊎ (stops rows worker ≡ true)

-- for each worker of the plan: the seat shows the end, or the rows stop that worker
abbrev pub AllEndOrStop : PlanData → SeatData → Type 0
AllEndOrStop plan seat = (worker : ℕ) → worker < plan.workers → EndsOrStops plan.rows worker seat

-- The plan's workers obeyed it from the given seat, and each shows the end unless it is stopped.
pub record AllWorked (task : Task) (plan : PlanData) (given later : SeatData) : Type 0 where
  pub ends : AllEndOrStop plan later
  pub obeyed : AllObeyed task plan.rows given plan.workers later

-- What a thread has to keep of the seat that it was given: the seat goes on, shows the end unless
-- the rows stop the worker, and came about by obeying them.
abbrev pub HasObeyed : List Row → ℕ → SeatData → SeatData → Type 0
HasObeyed rows worker given seat = IsContinued given seat × EndsOrStops rows worker seat
    × ObeysAnew given.desk.task worker rows given seat

-- what a thread has to keep: it was given this seat, to obey these rows as this worker
pub record IsToObey (plan : List Row) (number : ℕ) (given : SeatData) (promise : Obeyed)
    : Type 0 where
  pub rows : promise.rows.now ≡ plan
  pub worker : promise.worker ≡ number
  pub seat : promise.before.value ≡ given

-- what the reader's thread has to keep: it was given this seat, for so many rounds
pub record IsToWatch (listed : List ℕ) (count : ℕ) (given : SeatData) (promise : Watched) :
    Type 0 where
  pub cells : promise.cells.now ≡ listed
  pub rounds : promise.rounds ≡ count
  pub seat : promise.before.value ≡ given
