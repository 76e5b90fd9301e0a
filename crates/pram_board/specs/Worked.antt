-- What a worker's ticks come to.
use Rattle.std.specs.Prelude.{◌≡◌, ◌⊎◌, ℕ, ◌+◌, ◌*◌, ◌<◌, ◌≤◌, List, [], ◌∷◌, length}
use Rattle.std.specs.Prelude.{Option, Some, None, IfSome}
use Rattle.std.specs.List.{AllByRecursion}
use Rattle.pram_words.specs.declared.words.Word.TheVariants as word
use Rattle.pram_words.specs.Tree.{leaves_of}
use Rattle.pram_words.specs.Words.{LayoutData, number_of}
use Rattle.walkx.specs.declared.operation.Ended.{Ended}
use Rattle.walkx.specs.declared.operation.Ended.TheVariants.{Done, Conflict}
use Rattle.walkx.specs.declared.operation.Op.{Op}
use Rattle.walkx.specs.declared.operation.Op.TheVariants.{Load}
use Rattle.walkx.specs.Bound.{told_all}
use Rattle.walkx.specs.Inner.Workers.{WorkerData}
use Rattle.walkx.specs.Records.{Record, Knows}
use Rattle.walkx.specs.Serving.{Serves}
use Rattle.walkx.specs.Walk.{Walking, ask_of, told, end_of}
use Rattle.lawful_walk.specs.Seen.{Heard}
use Rattle.lawful_walk.specs.Walks.{DoneWell, IsConflict, steps_heard}
use Rattle.pram_board.specs.declared.task.Task.{Task}
use Rattle.pram_board.specs.declared.work.Stay.{Stay}
use Rattle.pram_board.specs.declared.work.Stay.TheVariants as stay
use Rattle.pram_board.specs.Seats.{Desk, SeatData, hears, hears_all}

-- the seat is of this board, the worker goes with the board, and the seat knows it
pub record Works (board : Desk) (seat : SeatData) (worker : WorkerData) : Type 0 where
  pub desk : seat.desk ≡ board
  pub serves : Serves board.task.job board.task.layout worker
  pub knows : Knows board.task.job board.task.layout seat.record_of worker.walking

-- one atomic step, the worker's next one: the record has it with its answer, which the worker was
-- told
pub record Ticked (task : Task) (before : SeatData) (walking : Walking) (later : SeatData)
    (now : Walking) : Type 0 where
  pub found : ℕ
  pub seat : later ≡ hears before (ask_of task.job task.layout walking) found
  pub worker : now ≡ told task.job task.layout walking found

-- a tick of a worker, which does nothing where the worker is over
pub record IsTick (task : Task) (before : SeatData) (worker : WorkerData) (later : SeatData)
    (now : WorkerData) : Type 0 where
  pub over : (ended : Ended) → end_of worker.walking.now ≡ Some ended →
      (later ≡ before) × (now ≡ worker)
  pub step : end_of worker.walking.now ≡ None → Ticked task before worker.walking later now.walking

-- what the record shows of how a worker ended: the last step, and word 0 as 0 after the root; or
-- word 0 as the step of the first conflict
abbrev pub EndShows : Task → Record → Option Ended → Type 0
EndShows task known None = Unit {0}
EndShows task known (Some Done) = DoneWell task.job task.layout known
EndShows task known (Some (Conflict step)) =
    Heard task.layout known word.Conflict step × IsConflict task.job step

-- ended with the worker; or stopped at the limit, the worker being not over
abbrev pub StaysAs : Option ℕ → ℕ → Walking → Stay → Type 0
StaysAs limit ticks now (stay.Ended ended) = end_of now.now ≡ Some ended
StaysAs limit ticks now stay.Stopped = (limit ≡ Some ticks) × (end_of now.now ≡ None)

-- ended with the worker by at most so many ticks; or stopped after so many or more, the worker being
-- not over
abbrev pub StaysAfter : ℕ → ℕ → Walking → Stay → Type 0
StaysAfter least ticks now (stay.Ended ended) = (ticks ≤ least) × (end_of now.now ≡ Some ended)
StaysAfter least ticks now stay.Stopped = (least ≤ ticks) × (end_of now.now ≡ None)

-- ---- the worker's own steps, and looks between them

-- these are the steps of the one list and those of the other, each in its order
abbrev pub Merges : (first second all : List (Op × ℕ)) → Type 0
Merges first second [] = (first ≡ []) × (second ≡ [])
Merges first second (step ∷ all) =
    ((rest : List (Op × ℕ)) × (first ≡ step ∷ rest) × Merges rest second all)
    ⊎ ((rest : List (Op × ℕ)) × (second ≡ step ∷ rest) × Merges first rest all)

-- a look: a load of a node, of which the worker is not told
abbrev pub IsLook : LayoutData → Op → Type 0
IsLook layout op = (node : ℕ) × (1 ≤ node) × (node < 2 * layout.leaves)
    × (op ≡ Load (number_of layout (word.Node node)))

-- ticks, one after the other, which heard these answers, and looks between them: all are in the
-- record, in the order in which they were made
pub record Advanced (task : Task) (before : SeatData) (walking : Walking) (later : SeatData)
    (now : Walking) : Type 0 where
  pub answers : List ℕ
  pub looks : List (Op × ℕ)
  pub steps : List (Op × ℕ)
  pub all : Merges (steps_heard task.job task.layout walking answers) looks steps
  pub each : AllByRecursion (λ (look : Op × ℕ). IsLook task.layout look.0) looks
  pub seat : later ≡ hears_all before steps
  pub worker : now ≡ told_all task.job task.layout walking answers

-- Such ticks and looks, at most 600 L T + 16 in all: at most 300 L T + 8 ticks and no more looks
-- than ticks. With a limit there are no looks, and at most so many ticks. It says how they ended,
-- and what the record shows of a worker that is over.
pub record WorkedAs (Stays : ℕ → Walking → Stay → Type 0) (task : Task) (before : SeatData)
    (walking : Walking) (limit : Option ℕ) (later : SeatData) (now : Walking) (stay : Stay)
    : Type 0 where
  pub by : Advanced task before walking later now
  pub all : length by.steps ≤ 2 * (300 * leaves_of task.job.procs * task.job.steps + 8)
  pub most : length by.answers ≤ 300 * leaves_of task.job.procs * task.job.steps + 8
  pub looks : length by.looks ≤ length by.answers
  pub within : IfSome limit (λ bound. (by.looks ≡ []) × (length by.answers ≤ bound))
  pub stays : Stays (length by.answers) now stay
  pub shows : EndShows task later.record_of (end_of now.now)

-- to the worker's end, or to the limit
abbrev pub Worked : Task → SeatData → Walking → Option ℕ → SeatData → Walking → Stay → Type 0
Worked task before walking limit later now stay =
    WorkedAs (StaysAs limit) task before walking limit later now stay

-- to the worker's end if so many ticks lead there, and else by at least so many
abbrev pub WorkedTurns : Task → SeatData → Walking → ℕ → SeatData → Walking → Stay → Type 0
WorkedTurns task before walking least later now stay =
    WorkedAs (StaysAfter least) task before walking None later now stay
