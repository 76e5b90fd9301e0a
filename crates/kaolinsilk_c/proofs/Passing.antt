-- What a call did with the member of a handle.
use Rattle.std.proofs.Common.{◌≡◌, ◌≢◌, ◌⊎◌, ℕ, ◌<◌, ◌≤◌, List, Bool, true, false, sym, subst}
use Rattle.std.specs.Prelude.{Option, Some, None}
use Rattle.pram_board.specs.declared.work.Stay.{Stay}
use Rattle.pram_board.specs.Stops.{StopsThere}
use Rattle.pram_job.specs.Job.{JobData}
use Rattle.library_boards.specs.declared.member.Member.{Member}
use Rattle.library_boards.specs.declared.shared.Shared.{Shared}
use Rattle.library_boards.specs.declared.status.TheConstants.{DONE, CONFLICT, FAILED}
use Rattle.library_boards.specs.declared.status.TheConstants.{MEMORY, UNFINISHED}
use Rattle.library_boards.specs.declared.told.ProgressTold.{ProgressTold}
use Rattle.library_boards.specs.declared.told.ReadingTold.{ReadingTold}
use Rattle.library_boards.specs.declared.told.FaultTold.{FaultTold}
use Rattle.library_boards.specs.Calls.{Between, HasComeBack, HasMade, HasOpened, HasWorked}
use Rattle.library_boards.specs.Calls.{IsFaultTold, IsHeld, IsNoWorkerFor, IsNoWorkerStatus}
use Rattle.library_boards.specs.Calls.{IsPut, TellsFault, TellsMemory, TellsMemberProgress}
use Rattle.library_boards.specs.Calls.{TellsReading, TellsStop, WasReadTold}
use Rattle.library_boards.specs.declared.told.StopTold.{StopTold}
use Rattle.library_boards.specs.Members.{MemberGoesOn, IsBack, IsMember, IsOpenedFor, IsMembersWork}
use Rattle.library_boards.specs.Members.{NoStopIsKnown, NoneIsKnown, StepsAreLeft, WorkSaid, job_at}
use Rattle.library_boards.specs.Members.{shared_at}

pub opened : (Holds : JobData → Type 0) (workers grain : ℕ) (handle : Option Member)
    (member : Member) → handle ≡ Some member → IsOpenedFor Holds workers grain member →
    HasOpened Holds workers grain handle
opened Holds workers grain handle member is o = record { member = member; is = is; opened = o }

pub made : (board handle : Option Member) (IsMade : Shared → Member → Type 0)
    (at member : Member) → board ≡ Some at → handle ≡ Some member → IsMade (shared_at at) member →
    HasMade board IsMade handle
made board handle IsMade at member was is m =
    record { at = at; was = was; made = member; is = is; is_made = m }

pub no_worker : (board : Option Member) (number status : ℕ) (at : Member) → board ≡ Some at →
    IsNoWorkerStatus (shared_at at).workers number status → IsNoWorkerFor board number status
no_worker board number status at was is = record { at = at; was = was; is = is }

is_member_worked : (IsWork : WorkSaid) (before later : Member) (stay : Option Stay) →
    IsMember before → IsMembersWork IsWork before later stay → IsMember later
is_member_worked IsWork before later None is work = subst IsMember (sym work.1) is
is_member_worked IsWork before later (Some stay) is work = work.is_member

pub worked : (old new : Option Member) (before later : Member) (IsWork : WorkSaid) (status : ℕ) →
    IsHeld old → old ≡ Some before → new ≡ Some later → HasWorked IsWork status before later →
    Between old new (HasWorked IsWork status)
worked old new before later IsWork status held was is work = record {
  before = before;
  was = was;
  now = later;
  is = is;
  passed = work;
  is_member = is_member_worked IsWork before later work.stay (held.is_member before was) work.works;
}

is_member_back : (before later : Member) (found : Bool) → IsMember before →
    IsBack before later found → IsMember later
is_member_back before later false is back = subst IsMember (sym back.1) is
is_member_back before later true is back = back.is_member

pub came_back : (old new : Option Member) (before later : Member) (status : ℕ) → IsHeld old →
    old ≡ Some before → new ≡ Some later → HasComeBack status before later →
    Between old new (HasComeBack status)
came_back old new before later status held was is back = record {
  before = before;
  was = was;
  now = later;
  is = is;
  passed = back;
  is_member = is_member_back before later back.found (held.is_member before was) back.back;
}

pub told_progress : (old new : Option Member) (before later : Member) (told : ProgressTold) →
    old ≡ Some before → new ≡ Some later → TellsMemberProgress told before later →
    Between old new (TellsMemberProgress told)
told_progress old new before later told was is tells = record {
  before = before;
  was = was;
  now = later;
  is = is;
  passed = tells;
  is_member = tells.goes_on.is_member;
}

pub told_reading : (old new : Option Member) (before later : Member) (cell status : ℕ)
    (was_told told : ReadingTold) → old ≡ Some before → new ≡ Some later →
    (cell < (shared_at before).cells → (status ≡ DONE) × WasReadTold cell told before later) →
    ((shared_at before).cells ≤ cell →
    (status ≡ FAILED) × (told ≡ was_told) × (later ≡ before)) → IsMember later →
    Between old new (TellsReading cell was_told told status)
told_reading old new before later cell status was_told told was is read none is_member = record {
  before = before;
  was = was;
  now = later;
  is = is;
  passed = record { read = read; none = none };
  is_member = is_member;
}

pub told_memory : (old new : Option Member) (before later : Member) (cells filled : List ℕ)
    (status : ℕ) → old ≡ Some before → new ≡ Some later →
    (status ≡ DONE → IsPut cells filled before later) →
    (status ≡ UNFINISHED → StepsAreLeft before later) →
    (status ≡ DONE) ⊎ ((status ≡ UNFINISHED) ⊎ (status ≡ MEMORY)) →
    (status ≢ DONE → filled ≡ cells) →
    MemberGoesOn before later → Between old new (TellsMemory cells filled status)
told_memory old new before later cells filled status was is put left ends kept on = record {
  before = before;
  was = was;
  now = later;
  is = is;
  passed = record { put = put; left = left; ends = ends; kept = kept; goes_on = on };
  is_member = on.is_member;
}

pub told_fault : (old new : Option Member) (before later : Member) (was_told told : FaultTold)
    (status : ℕ) → old ≡ Some before → new ≡ Some later →
    (status ≡ CONFLICT → IsFaultTold told before later) →
    (status ≡ UNFINISHED → NoneIsKnown before later) →
    (status ≡ CONFLICT) ⊎ ((status ≡ UNFINISHED) ⊎ (status ≡ MEMORY)) →
    (status ≢ CONFLICT → told ≡ was_told) →
    MemberGoesOn before later → Between old new (TellsFault was_told told status)
told_fault old new before later was_told told status was is fault none ends kept on = record {
  before = before;
  was = was;
  now = later;
  is = is;
  passed = record { fault = fault; none = none; ends = ends; kept = kept; goes_on = on };
  is_member = on.is_member;
}

pub told_stop : (old new : Option Member) (before later : Member) (was_told told : StopTold)
    (status : ℕ) → old ≡ Some before → new ≡ Some later →
    (status ≡ DONE → StopsThere (job_at before) told.step) →
    (status ≡ UNFINISHED → NoStopIsKnown before later) →
    (status ≡ DONE) ⊎ (status ≡ UNFINISHED) →
    (status ≢ DONE → told ≡ was_told) →
    MemberGoesOn before later → Between old new (TellsStop was_told told status)
told_stop old new before later was_told told status was is stops none ends kept on = record {
  before = before;
  was = was;
  now = later;
  is = is;
  passed = record { stops = stops; none = none; ends = ends; kept = kept; goes_on = on };
  is_member = on.is_member;
}
