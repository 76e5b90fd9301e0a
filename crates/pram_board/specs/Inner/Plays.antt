-- A script that is played through a seat, and the ticks that come of it.
use Rattle.std.specs.Prelude.{◌≡◌, ◌≤◌, ◌<◌, ℕ, Bool, true, false, ◌⊎◌, ◌+◌, ◌-◌, ◌*◌, ◌%◌, ◌^◌}
use Rattle.std.specs.Prelude.{nat_lt, suc}
use Rattle.std.specs.Prelude.{List, [], ◌∷◌, length, slice_set, Option, Some, None, IfSome}
use Rattle.std.specs.List.{AllByRecursion}
use Rattle.walkx.specs.declared.operation.Op.{Op}
use Rattle.walk_memory.specs.Inner.Posts.{IsCellOf, IsLeafPost, PostData, at_rank, processor_of}
use Rattle.walk_memory.specs.Memory.{FitsMemory, memo_of}
use Rattle.walkx.specs.Passing.{idle}
use Rattle.walkx.specs.Rests.{has_worked}
use Rattle.walk_memory.specs.Plain.{AllStore, carried_all}
use Rattle.walkx.specs.Storing.{left_of_task}
use Rattle.walkx.specs.Bound.{told_all}
use Rattle.walkx.specs.Inner.Workers.{WorkerData}
use Rattle.walkx.specs.Records.{Knows}
use Rattle.walkx.specs.Scripts.{Script, ends, rest, first_op, heard_in}
use Rattle.walkx.specs.Turns.{beginning, turning}
use Rattle.walkx.specs.declared.turns.Turned.{Turned}
use Rattle.walkx.specs.declared.turns.Turned.TheVariants as turned
use Rattle.walk_memory.specs.declared.memo.Memo.{Memo}
use Rattle.walkx.specs.Walk.{Then, Walking, Fits, IsGoing, AllAdmitted, end_of, goes_in}
use Rattle.walkx.specs.Walk.{script_of}
use Rattle.walk_memory.specs.Blocks.{IsBoard, has_rank}
use Rattle.pram_board.specs.declared.driver.Driver.{Driver}
use Rattle.pram_board.specs.declared.rest.Patience.{Patience}
use Rattle.pram_board.specs.declared.task.Task.{Task}
use Rattle.pram_board.specs.Seats.{Desk, SeatData, hears_all}
use Rattle.lawful_walk.specs.Moments.{Sound}
use Rattle.lawful_walk.specs.Walks.{steps_heard}
use Rattle.pram_board.specs.Worked.{Advanced, IsLook, Works}

-- what contracts see of a driver: its board, its seat, and how many atomic steps it made
pub record Driving : Type 0 where
  pub desk : Desk
  pub seat : SeatData
  pub made : ℕ

abbrev pub driving : {G : Type 0} → Driver G → Driving
driving driver = record { desk = driver.board.now; seat = driver.seat.now; made = driver.made }

-- the task of a post
abbrev pub post_task : PostData → Task
post_task at = record { job = at.job; layout = at.layout }

-- the seat is of the board, whose task this is
pub record IsAt (given : Task) (driver : Driving) : Type 0 where
  pub desk : driver.seat.desk ≡ driver.desk
  pub task : driver.desk.task ≡ given
  pub board : IsBoard given.job given.layout

-- each of these answers, the newest first, was one to an operation of the script
abbrev pub AllAnswer : Script Then → List ℕ → Type 0
AllAnswer script [] = Unit {0}
AllAnswer script (found ∷ earlier) = ((op : Op) × (first_op (rest script earlier) ≡ Some op))
    × AllAnswer script earlier

-- The driver played the script until this is left of it: there are answers that the board gave to
-- the operations of the script, in its order, and no step beside them.
pub record PlaysScript (task : Task) (script : Script Then) (before : Driving) (left : Script Then)
    (later : Driving) : Type 0 where
  pub answers : List ℕ
  pub each : AllAnswer script answers
  pub comes : rest script answers ≡ left
  pub admitted : AllAdmitted task.job task.layout (heard_in script answers)
  pub desk : later.desk ≡ before.desk
  pub seat : later.seat ≡ hears_all before.seat (heard_in script answers)
  pub count : later.made % 2 ^ 64 ≡ (before.made + length answers) % 2 ^ 64
  pub small : before.made < 2 ^ 64 → later.made < 2 ^ 64

-- A worker that the seat knew began the script there, and the board's answers brought it to this
-- one.
pub record Drives (task : Task) (from : Driving × Script Then) (driver : Driving)
    (script : Script Then) : Type 0 where
  pub here : IsAt task driver
  pub by : Walking
  pub fresh : by.heard ≡ []
  pub going : IsGoing by.now
  pub fits : Fits task.job task.layout by
  pub knows : Knows task.job task.layout from.0.seat.record_of by
  pub begun : script_of task.job task.layout by ≡ from.1
  pub plays : PlaysScript task from.1 from.0 script driver

-- where a driver stands in a script: it is never held
abbrev pub drives : Task → Driving × Script Then → Driving → Option (Script Then) → Type 0
drives task from driver (Some script) = Drives task from driver script
drives task from driver None = ⊥

-- ---- ticks

-- a number of ticks, one after the other, all in the record
pub record Ran (task : Task) (before : SeatData) (walking : Walking) (ticks : ℕ) (later : SeatData)
    (now : Walking) : Type 0 where
  pub answers : List ℕ
  pub count : length answers ≡ ticks
  pub seat : later ≡ hears_all before (steps_heard task.job task.layout walking answers)
  pub worker : now ≡ told_all task.job task.layout walking answers

-- ticks of a worker, which are counted, and what it then is
pub record Went (task : Task) (before : Driving) (walking : Walking) (later : Driving)
    (now : Walking) : Type 0 where
  pub ticks : ℕ
  pub ran : Ran task before.seat walking ticks later.seat now
  pub desk : later.desk ≡ before.desk
  pub count : later.made % 2 ^ 64 ≡ (before.made + ticks) % 2 ^ 64
  pub small : before.made < 2 ^ 64 → later.made < 2 ^ 64

-- ticks and looks, at most as many looks as half of all that was made; the second number counts the
-- looks
pub record Roamed (task : Task) (before : Driving × ℕ) (walking : Walking) (later : Driving × ℕ)
    (now : Walking) : Type 0 where
  pub by : Advanced task before.0.seat walking later.0.seat now
  pub desk : later.0.desk ≡ before.0.desk
  pub made : later.0.made ≡ before.0.made + (length by.answers + length by.looks)
  pub looks : later.1 ≡ before.1 + length by.looks
  pub few : 2 * later.1 ≤ later.0.made

-- They led the worker on: at least one tick; and one only, and no look, unless there is no limit
-- and the worker goes on. It still goes with the board, and the seat knows it.
pub record WorkerGoesOn (limited : Bool) (before : Driving × ℕ) (worker : WorkerData)
    (later : Driving × ℕ) (now : WorkerData) : Type 0 where
  pub roamed : Roamed before.0.desk.task before worker.walking later now.walking
  pub some : 1 ≤ length roamed.by.answers
  pub single : ((length roamed.by.answers ≡ 1) × (roamed.by.looks ≡ []))
      ⊎ ((limited ≡ false) × (end_of now.walking.now ≡ None))
  pub works : Works later.0.desk later.0.seat now

-- the worker fits the job, and the seat knows it
pub record IsWalking (task : Task) (driver : Driving) (walking : Walking) : Type 0 where
  pub here : IsAt task driver
  pub fits : Fits task.job task.layout walking
  pub knows : Knows task.job task.layout driver.seat.record_of walking

-- ticks that led a worker on, or none
pub record Moved (task : Task) (before : Driving) (walking : Walking) (later : Driving)
    (now : Walking) : Type 0 where
  pub walks : IsWalking task later now
  pub went : Went task before walking later now

-- at least one
pub record Led (task : Task) (before : Driving) (walking : Walking) (later : Driving)
    (now : Walking) : Type 0 where
  pub walks : IsWalking task later now
  pub went : Went task before walking later now
  pub some : 1 ≤ went.ticks

-- at least one, and looks between them
pub record RoamedThrough (task : Task) (before : Driving × ℕ) (walking : Walking)
    (later : Driving × ℕ) (now : Walking) : Type 0 where
  pub walks : IsWalking task later.0 now
  pub roamed : Roamed task before walking later now
  pub some : 1 ≤ length roamed.by.answers

-- looks alone, which are counted
pub record OnlyLooked (task : Task) (before : Driving) (had : Patience) (later : Driving)
    (has : Patience) : Type 0 where
  pub looks : List (Op × ℕ)
  pub each : AllByRecursion (λ (look : Op × ℕ). IsLook task.layout look.0) looks
  pub seat : later.seat ≡ hears_all before.seat looks
  pub desk : later.desk ≡ before.desk
  pub made : later.made ≡ before.made + length looks
  pub count : has.looks ≡ had.looks + length looks
  pub left : has.left + length looks ≡ had.left

-- the worker of a post, with this memory: at the start of a turn, and at a rank in its block
abbrev pub turning_at : PostData → List Memo → Walking
turning_at at memory = turning at.worker at.node at.phase memory

abbrev pub in_block : PostData → ℕ → List Memo → Walking
in_block at rank memory = goes_in at.job at.layout at.worker at.node at.phase rank memory

-- the worker is at the task of this leaf's processor, in a block of this length
pub record AtTask (at : PostData) (len : ℕ) (driver : Driving) (memory : List Memo) : Type 0 where
  pub leaf : IsLeafPost at
  pub ranks : (rank : ℕ) → has_rank at.layout at.node rank ≡ nat_lt rank len
  pub fits : FitsMemory at.job memory
  pub walks : IsWalking (post_task at) driver (in_block at at.rank memory)

-- the worker is past it
pub record PastTask (at : PostData) (len : ℕ) (driver : Driving) (memory : List Memo)
    : Type 0 where
  pub leaf : IsLeafPost at
  pub ranks : (rank : ℕ) → has_rank at.layout at.node rank ≡ nat_lt rank len
  pub fits : FitsMemory at.job memory
  pub walks : IsWalking (post_task at) driver (in_block at (suc at.rank) memory)

-- the tasks of a block of this length were done, from one rank up to another, which is the leaf's
-- or a later one
pub record DoneFrom (from : ℕ) (at : PostData) (len : ℕ) (before : Driving) (memory : List Memo)
    (last : ℕ) (later : Driving) (now : List Memo) : Type 0 where
  pub onward : at.rank ≤ last
  pub within : last < len
  pub fits : FitsMemory at.job now
  pub moved : Moved (post_task at) before (in_block at from memory) later
      (in_block at (suc last) now)

-- from the leaf's on
abbrev pub DoneTo : PostData → ℕ → Driving → List Memo → ℕ → Driving → List Memo → Type 0
DoneTo at len before memory last later now = DoneFrom at.rank at len before memory last later now

-- from the next one's on
abbrev pub DoneMore : PostData → ℕ → Driving → List Memo → ℕ → Driving → List Memo → Type 0
DoneMore at len before memory last later now =
    DoneFrom (suc at.rank) at len before memory last later now

-- the worker is at the task of this leaf's processor; the task was done
pub record AtPart (at : PostData) (driver : Driving) (memory : List Memo) : Type 0 where
  pub leaf : IsLeafPost at
  pub fits : FitsMemory at.job memory
  pub walks : IsWalking (post_task at) driver (in_block at at.rank memory)

pub record DonePart (at : PostData) (before : Driving) (memory : List Memo) (later : Driving)
    (now : List Memo) : Type 0 where
  pub fits : FitsMemory at.job now
  pub moved :
      Moved (post_task at) before (in_block at at.rank memory) later (in_block at (suc at.rank) now)

-- it was, or nothing was done
abbrev pub Tried : PostData → Driving → List Memo → Driving → List Memo → Bool → Type 0
Tried at before memory later now true = DonePart at before memory later now
Tried at before memory later now false = (later ≡ before) × (now ≡ memory)

-- The task of the leaf's processor was done by its store, up to the report, which may be due.
pub record WasSwapped (at : PostData) (before : Driving) (memory : List Memo)
    (due : Option (ℕ × ℕ)) (later : Driving) (now : List Memo) : Type 0 where
  pub learned : Memo
  pub kept : now ≡ slice_set memory (processor_of at) learned
  pub asks : idle at (memo_of memory (processor_of at)) ≡ None
  pub cell : IfSome due (λ write. IsCellOf at write.0)
  pub sound : Sound at.job at.layout later.seat.record_of
  pub drives : Drives (post_task at)
      (before, script_of at.job at.layout (in_block at at.rank memory)) later
      (left_of_task at due (ends (has_worked at learned)))

-- So it was for the processors of a block of this length from this leaf's to the last one: only of
-- that one a report may be due.
pub record StoredTo (at : PostData) (len : ℕ) (before : Driving) (memory : List Memo)
    (last : PostData × Option (ℕ × ℕ)) (later : Driving) (now : List Memo) : Type 0 where
  pub same : last.0 ≡ at_rank at last.0.rank
  pub onward : at.rank ≤ last.0.rank
  pub mid : Driving
  pub between : List Memo
  pub moved : Moved (post_task at) before (in_block at at.rank memory) mid
      (in_block at last.0.rank between)
  pub there : AtTask last.0 len mid between
  pub stores : AllStore last.0 len between
  pub swapped : WasSwapped last.0 mid between last.1 later now

-- And so it was where the stores of those up to this rank are yet to be remembered as carried out.
pub record StoredIn (at : PostData) (len : ℕ) (before : Driving) (memory : List Memo)
    (last : PostData × Option (ℕ × ℕ) × ℕ) (later : Driving) : Type 0 where
  pub from : at.rank ≤ last.2
  pub most : last.2 ≤ len
  pub stored : StoredTo at len before memory (last.0, last.1) later
      (carried_all at (last.2 - at.rank) memory)

-- where a turn leads it
abbrev pub led_to : PostData → List Memo → Turned → Walking
led_to at memory turned.Finished = beginning at.worker 1 memory
led_to at memory (turned.To node) = turning at.worker node at.phase memory
led_to at memory turned.Enters = in_block at 0 memory

-- at the start of the next turn, at this node; or the root is finished
abbrev pub turn_after : PostData → List Memo → Option ℕ → Walking
turn_after at memory None = beginning at.worker 1 memory
turn_after at memory (Some node) = turning at.worker node at.phase memory
