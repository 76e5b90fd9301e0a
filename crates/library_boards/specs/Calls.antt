-- What calls of another language come to: a member before and after, and what is told.
use Rattle.std.specs.Prelude.{◌≡◌, ◌≢◌, ◌⊎◌, ℕ, ◌<◌, ◌≤◌, ◌++◌, List, length, take, drop, Bool}
use Rattle.std.specs.Prelude.{if◌then◌else◌, Option, Some, None, IsSome, unwrap_or}
use Rattle.pram_job.specs.Job.{JobData}
use Rattle.pram_text.specs.declared.fault.TextKind.{TextKind}
use Rattle.pram_text.specs.declared.fault.TextKind.TheVariants as text_kind
use Rattle.pardo_text.specs.declared.fault.PardoKind.{PardoKind}
use Rattle.pardo_text.specs.declared.fault.PardoKind.TheVariants as pardo_kind
use Rattle.pardo_job.specs.declared.fault.JobKind.{JobKind}
use Rattle.pardo_job.specs.declared.fault.JobKind.TheVariants as job_kind
use Rattle.pardo_job.specs.declared.fault.Refusal.TheVariants as refusal
use Rattle.walkx.specs.declared.operation.Ended.TheVariants as ended
use Rattle.walkx.specs.declared.operation.Reading.TheVariants.{At}
use Rattle.pram_board.specs.declared.look.Progress.{Progress}
use Rattle.pram_board.specs.declared.work.Stay.{Stay}
use Rattle.pram_board.specs.declared.work.Stay.TheVariants.{Ended, Stopped}
use Rattle.pram_board.specs.Seats.{Progressed, WasRead}
use Rattle.library_boards.specs.declared.job.OpenFault.{OpenFault}
use Rattle.library_boards.specs.declared.job.OpenFault.TheVariants.{Text, Program, Memory}
use Rattle.library_boards.specs.declared.member.Member.{Member}
use Rattle.library_boards.specs.declared.status.TheConstants.{DONE, CONFLICT, REFUSED}
use Rattle.library_boards.specs.declared.status.TheConstants.{UNFINISHED, FAILED, MEMORY}
use Rattle.library_boards.specs.declared.told.ProgressTold.{ProgressTold}
use Rattle.library_boards.specs.declared.told.ReadingTold.{ReadingTold}
use Rattle.library_boards.specs.declared.told.FaultTold.{FaultTold}
use Rattle.library_boards.specs.declared.told.StopTold.{StopTold}
use Rattle.pram_board.specs.Stops.{StopsThere}
use Rattle.library_boards.specs.Grains.{IsGrainAsked}
use Rattle.library_boards.specs.Jobs.{IsNoJob}
use Rattle.library_boards.specs.declared.shared.Shared.{Shared}
use Rattle.library_boards.specs.Members.{MemberGoesOn, IsBack, IsKnownFault, IsLastMemory, IsMember}
use Rattle.library_boards.specs.Members.{IsOpenedFor, IsMembersWork}
use Rattle.library_boards.specs.Members.{NoStopIsKnown, NoneIsKnown, StepsAreLeft, job_at}
use Rattle.library_boards.specs.Members.{WorkSaid, shared_at, member_task}

-- ---- handles

-- the handle has a member, whose seat is one of its board and knows its worker
pub record IsHeld (handle : Option Member) : Type 0 where
  pub some : IsSome handle
  pub is_member : (member : Member) → handle ≡ Some member → IsMember member

-- the handle had a member and has it now, and in between this came to pass
pub record Between (old new : Option Member) (Passed : Member → Member → Type 0) : Type 0 where
  pub before : Member
  pub was : old ≡ Some before
  pub now : Member
  pub is : new ≡ Some now
  pub passed : Passed before now
  pub is_member : IsMember now

-- ---- openings

-- a handle of a new board for a job of which this holds
pub record HasOpened (Holds : JobData → Type 0) (workers grain : ℕ) (handle : Option Member)
    : Type 0 where
  pub member : Member
  pub is : handle ≡ Some member
  pub opened : IsOpenedFor Holds workers grain member

-- a handle of a new member at the board of this one
pub record HasMade (board : Option Member) (IsMade : Shared → Member → Type 0)
    (handle : Option Member) : Type 0 where
  pub at : Member
  pub was : board ≡ Some at
  pub made : Member
  pub is : handle ≡ Some made
  pub is_made : IsMade (shared_at at) made

pub data IsNoWorkerStatus (workers number status : ℕ) : Type 0 where
  of_number : workers ≤ number → status ≡ FAILED → IsNoWorkerStatus workers number status
  out_of_memory : status ≡ MEMORY → IsNoWorkerStatus workers number status

abbrev pub status_of_text : TextKind → ℕ
status_of_text text_kind.Memory = MEMORY
status_of_text _ = REFUSED

abbrev pub status_of_program : PardoKind → ℕ
status_of_program pardo_kind.Memory = MEMORY
status_of_program _ = REFUSED

abbrev pub status_of_job : JobKind → ℕ
status_of_job job_kind.Memory = MEMORY
status_of_job _ = REFUSED

abbrev pub status_of_fault : OpenFault → ℕ
status_of_fault (Text fault) = status_of_text fault.kind
status_of_fault (Program (refusal.Text fault)) = status_of_program fault.kind
status_of_fault (Program (refusal.Job fault)) = status_of_job fault.kind
status_of_fault Memory = MEMORY

abbrev pub AreWithinLimits : (workers grain : ℕ) → Type 0
AreWithinLimits workers grain = (1 ≤ workers) × (workers ≤ 64) × IsGrainAsked grain

-- why there is no board: the text has none; the numbers allow none; or there is no memory
pub data IsOpenStatus (text : List ℕ) (workers grain status : ℕ) : Type 0 where
  of_text : (fault : OpenFault) → IsNoJob text fault → status ≡ status_of_fault fault →
      IsOpenStatus text workers grain status
  of_numbers : ¬ AreWithinLimits workers grain → status ≡ FAILED →
      IsOpenStatus text workers grain status
  of_memory : status ≡ MEMORY → IsOpenStatus text workers grain status

-- ---- work

abbrev pub status_of_stay : Option Stay → ℕ
status_of_stay None = FAILED
status_of_stay (Some (Ended ended.Done)) = DONE
status_of_stay (Some (Ended (ended.Conflict step))) = CONFLICT
status_of_stay (Some Stopped) = UNFINISHED

pub record HasWorked (IsWork : WorkSaid) (status : ℕ) (before later : Member) : Type 0 where
  pub stay : Option Stay
  pub works : IsMembersWork IsWork before later stay
  pub is : status ≡ status_of_stay stay

pub record HasComeBack (status : ℕ) (before later : Member) : Type 0 where
  pub found : Bool
  pub back : IsBack before later found
  pub is : status ≡ (if found then DONE else FAILED)

-- ---- looks

abbrev pub progress_told : JobData → Progress → ProgressTold
progress_told job progress = record {
  step = progress.step;
  steps = job.steps;
  conflict = unwrap_or progress.conflict 0;
  cells = job.cells;
}

pub record TellsMemberProgress (told : ProgressTold) (before later : Member) : Type 0 where
  pub progress : Progress
  pub progressed : Progressed (member_task before) before.seat later.seat progress
  pub is : told ≡ progress_told (job_at before) progress
  pub goes_on : MemberGoesOn before later

pub record WasReadTold (cell : ℕ) (told : ReadingTold) (before later : Member) : Type 0 where
  pub read : WasRead (member_task before) before.seat later.seat cell (At told.step told.value)
  pub goes_on : MemberGoesOn before later

-- the numbers at the front of the buffer, as many as there is room for
abbrev pub buffer_front : List ℕ → List ℕ → List ℕ
buffer_front numbers buffer = take (length buffer) numbers ++ drop (length numbers) buffer

pub record IsPut (old new : List ℕ) (before later : Member) : Type 0 where
  pub cells : List ℕ
  pub last : IsLastMemory before later cells
  pub is : new ≡ buffer_front cells old

pub record IsFaultTold (told : FaultTold) (before later : Member) : Type 0 where
  pub is : IsKnownFault before later (record {
    step = told.step;
    cell = told.cell;
    first = told.first;
    second = told.second;
  })

-- ---- what a call with a handle tells

pub record TellsReading (cell : ℕ) (old new : ReadingTold) (status : ℕ) (before later : Member)
    : Type 0 where
  pub read : cell < (shared_at before).cells →
      (status ≡ DONE) × WasReadTold cell new before later
  pub none : (shared_at before).cells ≤ cell →
      (status ≡ FAILED) × (new ≡ old) × (later ≡ before)

pub record TellsMemory (old new : List ℕ) (status : ℕ) (before later : Member) : Type 0 where
  pub put : status ≡ DONE → IsPut old new before later
  pub left : status ≡ UNFINISHED → StepsAreLeft before later
  pub ends : (status ≡ DONE) ⊎ ((status ≡ UNFINISHED) ⊎ (status ≡ MEMORY))
  pub kept : status ≢ DONE → new ≡ old
  pub goes_on : MemberGoesOn before later

pub record TellsFault (old new : FaultTold) (status : ℕ) (before later : Member) : Type 0 where
  pub fault : status ≡ CONFLICT → IsFaultTold new before later
  pub none : status ≡ UNFINISHED → NoneIsKnown before later
  pub ends : (status ≡ CONFLICT) ⊎ ((status ≡ UNFINISHED) ⊎ (status ≡ MEMORY))
  pub kept : status ≢ CONFLICT → new ≡ old
  pub goes_on : MemberGoesOn before later

pub record TellsStop (old new : StopTold) (status : ℕ) (before later : Member) : Type 0 where
  pub stops : status ≡ DONE → StopsThere (job_at before) new.step
  pub none : status ≡ UNFINISHED → NoStopIsKnown before later
  pub ends : (status ≡ DONE) ⊎ (status ≡ UNFINISHED)
  pub kept : status ≢ DONE → new ≡ old
  pub goes_on : MemberGoesOn before later

pub record IsNoWorkerFor (board : Option Member) (number status : ℕ) : Type 0 where
  pub at : Member
  pub was : board ≡ Some at
  pub is : IsNoWorkerStatus (shared_at at).workers number status
