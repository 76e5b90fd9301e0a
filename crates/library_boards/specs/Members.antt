-- What the calls of a member come to.
use Rattle.std.specs.Prelude.{◌≡◌, ◌≢◌, ◌⊎◌, ◌==◌, ℕ, List, Bool, true, false}
use Rattle.std.specs.Prelude.{Option, Some, None, if◌then◌else◌}
use Rattle.std.specs.Arc.{arc_value}
use Rattle.pram_job.specs.Job.{JobData}
use Rattle.pram_step.specs.Runs.{IsAnswer, IsFault}
use Rattle.pram_step.specs.declared.answer.Fault.{Fault}
use Rattle.pram_step.specs.declared.answer.RunAnswer.TheVariants.{Final}
use Rattle.pram_words.specs.declared.layout.Form.TheVariants.{Wide}
use Rattle.walkx.specs.Inner.Workers.{WorkerData}
use Rattle.walkx.specs.Records.{empty}
use Rattle.walkx.specs.Serving.{IsNewWorker}
use Rattle.walkx.specs.Walk.{Walking, come_back, remembering, started}
use Rattle.pram_board.specs.declared.task.Task.{Task}
use Rattle.pram_board.specs.declared.look.Progress.{Progress}
use Rattle.pram_board.specs.declared.work.Stay.{Stay}
use Rattle.pram_board.specs.Seats.{Desk, HasLoaded, HasSeen, IsLater, IsOpened, KnowsConflict}
use Rattle.pram_board.specs.Seats.{Progressed, SeatData}
use Rattle.pram_board.specs.Stops.{EndsApart}
use Rattle.walk_memory.specs.Blocks.{IsWide}
use Rattle.pram_board.specs.Worked.{Worked, WorkedTurns, Works}
use Rattle.library_boards.specs.declared.member.Member.{Member}
use Rattle.library_boards.specs.declared.shared.Shared.{Shared}
use Rattle.library_boards.specs.Grains.{grain_or_default}

abbrev pub shared_at : Member → Shared
shared_at member = arc_value member.shared

abbrev pub board_at : Member → Desk
board_at member = (arc_value member.shared).board

abbrev pub member_task : Member → Task
member_task member = (arc_value member.shared).board.task

abbrev pub job_at : Member → JobData
job_at member = (arc_value member.shared).board.task.job

-- the seat is one of the board, and knows the worker, if there is one
pub record IsMember (member : Member) : Type 0 where
  pub desk : member.seat.desk ≡ board_at member
  pub works : (worker : WorkerData) → member.worker ≡ Some worker →
      Works (board_at member) member.seat worker

-- ---- openings

-- a reader at a new board for this job
pub record IsOpenedAt (job : JobData) (workers grain : ℕ) (member : Member) : Type 0 where
  pub opened : IsOpened job (Wide (grain_or_default grain job.procs)) workers
      (board_at member, member.seat)
  pub reader : member.worker ≡ None
  pub is_member : IsMember member

-- a reader at a new board for a job of which this holds
pub record IsOpenedFor (Holds : JobData → Type 0) (workers grain : ℕ) (member : Member)
    : Type 0 where
  pub job : JobData
  pub holds : Holds job
  pub at : IsOpenedAt job workers grain member

-- a member of this board, whose seat has seen one load
pub record IsNewAt (shared : Shared) (member : Member) : Type 0 where
  pub same : arc_value member.shared ≡ shared
  pub seen : HasLoaded 1 (record { desk = shared.board; record_of = empty }) member.seat
  pub is_member : IsMember member

pub record IsReaderAt (shared : Shared) (member : Member) : Type 0 where
  pub new : IsNewAt shared member
  pub reader : member.worker ≡ None

pub record IsWorkerAt (shared : Shared) (number : ℕ) (member : Member) : Type 0 where
  pub new : IsNewAt shared member
  pub worker : WorkerData
  pub is : member.worker ≡ Some worker
  pub memory : ℕ
  pub starts : IsNewWorker number (remembering memory (started number)) worker

-- ---- work

-- the greatest number stands for no limit
abbrev pub limit_of : ℕ → Option ℕ
limit_of limit = if limit == 18446744073709551615 then None else Some limit

-- what is said of a worker's ticks: of a task, the seat and the worker before and after, and how
-- they ended
abbrev pub WorkSaid : Type 1
WorkSaid = Task → SeatData → Walking → SeatData → Walking → Stay → Type 0

-- by a limit, and by whole turns
abbrev pub by_limit : ℕ → WorkSaid
by_limit limit task before walking later now stay =
    Worked task before walking (limit_of limit) later now stay

abbrev pub by_turns : ℕ → WorkSaid
by_turns least task before walking later now stay =
    WorkedTurns task before walking least later now stay

-- the worker's ticks, all in the record of its seat
pub record WorkedOn (IsWork : WorkSaid) (before later : Member) (stay : Stay) : Type 0 where
  pub worker : WorkerData
  pub was : before.worker ≡ Some worker
  pub now : WorkerData
  pub is : later.worker ≡ Some now
  pub worked : IsWork (member_task before) before.seat worker.walking later.seat now.walking stay
  pub goes : IsLater (board_at before) before.seat later.seat
  pub same : later.shared ≡ before.shared
  pub is_member : IsMember later

abbrev pub IsMembersWork : WorkSaid → Member → Member → Option Stay → Type 0
IsMembersWork IsWork before later None = (before.worker ≡ None) × (later ≡ before)
IsMembersWork IsWork before later (Some stay) = WorkedOn IsWork before later stay

-- the worker comes back with its number, by the same seat
pub record CameBack (before later : Member) : Type 0 where
  pub worker : WorkerData
  pub was : before.worker ≡ Some worker
  pub now : WorkerData
  pub is : later.worker ≡ Some now
  pub memory : ℕ
  pub back : IsNewWorker worker.walking.number
      (remembering memory (come_back worker.walking.number)) now
  pub seat : later.seat ≡ before.seat
  pub same : later.shared ≡ before.shared
  pub is_member : IsMember later

abbrev pub IsBack : Member → Member → Bool → Type 0
IsBack before later false = (before.worker ≡ None) × (later ≡ before)
IsBack before later true = CameBack before later

-- ---- looks

-- the board and the worker are as before, and the seat is a later one
pub record MemberGoesOn (before later : Member) : Type 0 where
  pub goes : IsLater (board_at before) before.seat later.seat
  pub worker : later.worker ≡ before.worker
  pub same : later.shared ≡ before.shared
  pub is_member : IsMember later

-- the last look showed that steps are left
pub record StepsAreLeft (before later : Member) : Type 0 where
  pub progress : Progress
  pub progressed : Progressed (member_task before) before.seat later.seat progress
  pub left : progress.step ≢ (job_at before).steps

-- the last look showed no step that is against the rule
pub record NoneIsKnown (before later : Member) : Type 0 where
  pub progress : Progress
  pub progressed : Progressed (member_task before) before.seat later.seat progress
  pub none : progress.conflict ≡ None

-- no step is known after which all have stopped, each at its end: steps are left, or some processor
-- is not at its end, as far as the words of the board tell
abbrev pub NoStopIsKnown : Member → Member → Type 0
NoStopIsKnown before later = StepsAreLeft before later
    ⊎ (IsWide (member_task before).layout.form → EndsApart (job_at before))

-- the last step was seen to be finished, and this is what the cells hold after it
pub record IsLastMemory (before later : Member) (cells : List ℕ) : Type 0 where
  pub seen : HasSeen (member_task before).layout later.seat.record_of (job_at before).steps
  pub answers : IsAnswer (job_at before) (Final cells)

-- word 0 was heard to name a step, and this is the first fault
pub record IsKnownFault (before later : Member) (fault : Fault) : Type 0 where
  pub heard : KnowsConflict (member_task before).layout later.seat.record_of
  pub is : IsFault (job_at before) fault
