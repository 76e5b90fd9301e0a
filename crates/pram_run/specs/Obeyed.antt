-- What the threads of a run make of the seat that they are given.
use Rattle.std.specs.Prelude.{◌≡◌, ◌≢◌, ◌⊎◌, ℕ, zero, suc, List, [], ◌∷◌, Some, None}
use Rattle.pram_step.specs.declared.answer.RunAnswer.{RunAnswer}
use Rattle.pram_step.specs.declared.answer.RunAnswer.TheVariants.{Final, Conflict, Unfinished}
use Rattle.walkx.specs.Walk.{Walking, started, come_back, remembering}
use Rattle.lawful_walk.specs.Moments.{Sound}
use Rattle.stop_plan.specs.declared.plan.Act.{Act}
use Rattle.stop_plan.specs.declared.plan.Act.TheVariants.{Go, Sleep, Back, Stop}
use Rattle.stop_plan.specs.declared.plan.Row.{Row}
use Rattle.stop_plan.specs.Plan.{PlanData}
use Rattle.pram_board.specs.declared.task.Task.{Task}
use Rattle.pram_board.specs.declared.work.Stay.{Stay}
use Rattle.pram_board.specs.Seats.{SeatData, HasLoaded, Progressed, unites}
use Rattle.pram_board.specs.Worked.{Worked}
use Rattle.pram_run.specs.Running.{IsRun}

-- What an act makes of a worker at a seat: it works up to so many ticks; it does nothing; it
-- comes back, knowing its number alone, with a memory of any size, or none; or it is lost, and does
-- nothing.
abbrev pub Acts : Act → Task → ℕ → ℕ → SeatData → Walking → SeatData → Walking → Type 0
Acts Go task number ticks before walking later now =
    (stay : Stay) × Worked task before walking (Some ticks) later now stay
Acts Sleep task number ticks before walking later now = (later ≡ before) × (now ≡ walking)
Acts Back task number ticks before walking later now =
    (later ≡ before) × ((size : ℕ) × (now ≡ remembering size (come_back number)))
Acts Stop task number ticks before walking later now = (later ≡ before) × (now ≡ walking)

-- one row of the worker
abbrev pub DoesRow : Task → Row → SeatData → Walking → SeatData → Walking → Type 0
DoesRow task row before walking later now =
    Acts row.act task row.worker row.ticks before walking later now

-- From a seat, the worker does the rows of its number in order, and then works without a limit;
-- a row that stops it is its last. So the later seat comes about.
abbrev pub Obeys : Task → ℕ → List Row → SeatData → Walking → SeatData → Type 0
Obeys task number [] before walking later =
    (now : Walking) × (stay : Stay) × Worked task before walking None later now stay
Obeys task number (row ∷ rows) before walking later =
    ((row.worker ≢ number) × Obeys task number rows before walking later)
    ⊎ (((row.worker ≡ number) × (row.act ≡ Stop) × (later ≡ before))
    ⊎ ((row.worker ≡ number) × (row.act ≢ Stop) × (next : SeatData) × (now : Walking)
    × DoesRow task row before walking next now × Obeys task number rows next now later))

-- the worker being new, with a memory of any size, or none
abbrev pub ObeysAnew : Task → ℕ → List Row → SeatData → SeatData → Type 0
ObeysAnew task number rows before later =
    (size : ℕ) × Obeys task number rows before (remembering size (started number)) later

-- The first so many workers each obeyed the rows from the given seat, and their seats were joined
-- to it, one after the other: the later seat.
abbrev pub AllObeyed : Task → List Row → SeatData → ℕ → SeatData → Type 0
AllObeyed task rows given zero later = later ≡ given
AllObeyed task rows given (suc worker) later = (before : SeatData) × (theirs : SeatData)
    × AllObeyed task rows given worker before × ObeysAnew task worker rows given theirs
    × (later ≡ unites before theirs)

-- some loads more
abbrev pub HasLooked : SeatData → SeatData → Type 0
HasLooked before later = (loads : ℕ) × HasLoaded loads before later

-- The seat looked at the board for this answer: with some loads; for an unfinished one with one of
-- the root and then one of word 0, which show this step, and no conflict.
abbrev pub LooksFor : Task → SeatData → SeatData → RunAnswer → Type 0
LooksFor task before later (Final cells) = HasLooked before later
LooksFor task before later (Conflict fault) = HasLooked before later
LooksFor task before later (Unfinished step) =
    Progressed task before later (record { step = step; conflict = None })

-- Such a look told the answer: the later record is sound, and tells it.
pub record IsAnswered (task : Task) (plan : PlanData) (before later : SeatData)
    (answer : RunAnswer) : Type 0 where
  pub looks : LooksFor task before later answer
  pub sound : Sound task.job task.layout later.record_of
  pub told : IsRun task plan later.record_of answer

-- The plan's workers obeyed it from the given seat, and the seat that joins theirs looked at the
-- board, which told the answer.
pub record HasRun (task : Task) (plan : PlanData) (given later : SeatData) (answer : RunAnswer)
    : Type 0 where
  pub seat : SeatData
  pub obeyed : AllObeyed task plan.rows given plan.workers seat
  pub answered : IsAnswered task plan seat later answer
