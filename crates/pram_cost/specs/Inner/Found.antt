-- What was found of the accesses of a step.
use Rattle.std.specs.Prelude.{◌≡◌, ◌≢◌, ℕ, ◌<◌, ◌≤◌, Bool, true, false, All, AllPairs, List, length}
use Rattle.std.specs.Prelude.{filter, slice_index_or, Option, Some, None, MatchOption}
use Rattle.std.specs.List.{range_with_len}
use Rattle.pram_job.specs.Job.{JobData}
use Rattle.pram_machine.specs.Machine.{State}
use Rattle.pram_cost.specs.declared.access.Visit.{Visit}
use Rattle.pram_cost.specs.declared.access.Visit.TheVariants.{Stopped, Elsewhere, Reads, Writes}
use Rattle.pram_cost.specs.declared.found.Access.{Access}
use Rattle.pram_cost.specs.declared.found.Accesses.{Accesses}
use Rattle.pram_cost.specs.declared.meeting.Sharing.{Sharing}
use Rattle.pram_cost.specs.declared.meeting.Sharing.TheVariants.{SameRead, SameWrite, OtherValue}
use Rattle.pram_step.specs.Running.{is_running}
use Rattle.pram_cost.specs.Meetings.{access_by}

-- ---- of one processor

-- whether one that does this runs
abbrev pub runs_in : Visit → Bool
runs_in Stopped = false
runs_in Elsewhere = true
runs_in (Reads cell) = true
runs_in (Writes cell value) = true

-- its access that is a read, and the one that is a write
abbrev pub read_in_visit : Visit → Option (ℕ × ℕ)
read_in_visit Stopped = None
read_in_visit Elsewhere = None
read_in_visit (Reads cell) = Some (cell, 0)
read_in_visit (Writes cell value) = None

abbrev pub write_in : Visit → Option (ℕ × ℕ)
write_in Stopped = None
write_in Elsewhere = None
write_in (Reads cell) = None
write_in (Writes cell value) = Some (cell, value)

abbrev pub IsInside : ℕ → Visit → Type 0
IsInside cells Stopped = Unit {0}
IsInside cells Elsewhere = Unit {0}
IsInside cells (Reads cell) = cell < cells
IsInside cells (Writes cell value) = cell < cells

-- processor i does this in the step
pub record IsVisit (job : JobData) (state : State) (i : ℕ) (visit : Visit) : Type 0 where
  pub runs : is_running job state i ≡ runs_in visit
  pub reads : access_by SameRead job state i ≡ read_in_visit visit
  pub writes : access_by SameWrite job state i ≡ write_in visit
  pub inside : IsInside job.cells visit

-- ---- of several

-- access k, as code reads it
abbrev pub access_at : List Access → ℕ → Access
access_at list k = slice_index_or list k (record { processor = 0; cell = 0; value = 0 })

-- it is what one of n processors does
pub record IsAccess (cells : ℕ) (access : ℕ → Option (ℕ × ℕ)) (n : ℕ) (one : Access) : Type 0 where
  pub within : one.processor < n
  pub is_cell : one.cell < cells
  pub goes : access one.processor ≡ Some (one.cell, one.value)

-- These are the accesses of n processors, in their order. That each is in the list is said as a
-- proposition: it is not so that none is of that processor.
pub record AreAccesses (cells : ℕ) (access : ℕ → Option (ℕ × ℕ)) (n : ℕ) (list : List Access) :
    Type 0 where
  pub few : length list ≤ n
  pub each : All (IsAccess cells access n) list
  pub rises : AllPairs (λ (one other : Access). one.processor < other.processor) list
  pub all : (i cell value : ℕ) → i < n → access i ≡ Some (cell, value) →
      ((k : ℕ) → k < length list → (access_at list k).processor ≢ i) → ⊥

-- how many of n processors run, and their accesses of both kinds
pub record AreFound (job : JobData) (state : State) (n : ℕ) (accesses : Accesses) : Type 0 where
  pub few : accesses.running ≤ n
  pub count : accesses.running ≡ length (filter (is_running job state) (range_with_len 0 n))
  pub reads : AreAccesses job.cells (access_by SameRead job state) n accesses.reads.items
  pub writes : AreAccesses job.cells (access_by SameWrite job state) n accesses.writes.items

-- those that may be such a meeting
abbrev pub of_kind : Sharing → Accesses → List Access
of_kind SameRead accesses = accesses.reads.items
of_kind SameWrite accesses = accesses.writes.items
of_kind OtherValue accesses = accesses.writes.items

-- the access that the mark names, if it comes before access k and goes to the same cell
abbrev pub NamesFirst : List Access → ℕ → ℕ → Option Access → Type 0
NamesFirst list mark k found =
    MatchOption found (mark < k → (access_at list mark).cell ≢ (access_at list k).cell)
    (λ first. (mark < k) × ((access_at list mark).cell ≡ (access_at list k).cell)
    × (first ≡ access_at list mark))
