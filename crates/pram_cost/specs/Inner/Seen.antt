-- What a search for a meeting knows of the processors that it has looked at.
use Rattle.std.specs.Prelude.{◌≡◌, ℕ, ◌<◌, ◌≤◌, List, map, slice_index, slice_index_or}
use Rattle.std.specs.Prelude.{Option, Some, IfSome}
use Rattle.pram_job.specs.Job.{JobData}
use Rattle.pram_machine.specs.Machine.{State, counter}
use Rattle.pram_cost.specs.declared.found.Access.{Access}
use Rattle.pram_cost.specs.declared.meeting.Meeting.{Meeting}
use Rattle.pram_cost.specs.declared.meeting.Sharing.{Sharing}
use Rattle.pram_cost.specs.Meetings.{access_by, IsLeastOrNone}

-- the mark of each cell that one of n processors goes to names the least of them
abbrev pub MarkLeast : (ℕ → Option (ℕ × ℕ)) → ℕ → List ℕ → Type 0
MarkLeast access n marks =
    (i cell value : ℕ) → i < n → access i ≡ Some (cell, value) →
    (slice_index marks cell ≤ i)
    × ((other : ℕ) × (access (slice_index marks cell) ≡ Some (cell, other)))

-- the meeting is one of this step, and its first processor stands there in the state before it
abbrev pub IsOfStep : JobData → State → ℕ → Meeting → Type 0
IsOfStep job state step meeting =
    (meeting.step ≡ step) × (meeting.counter ≡ counter job state meeting.first)

-- n processors were looked at in this step
pub record HasLookedAt (sharing : Sharing) (job : JobData) (state : State) (step n : ℕ) (marks :
    List ℕ) (found : Option Meeting) : Type 0 where
  pub marked : MarkLeast (access_by sharing job state) n marks
  pub least : IsLeastOrNone sharing (access_by sharing job state) n found
  pub of_step : IfSome found (IsOfStep job state step)

-- processor i comes before j, goes to the cell, and brings this value
abbrev pub GoesBefore : (ℕ → Option (ℕ × ℕ)) → ℕ → ℕ → ℕ → ℕ → Type 0
GoesBefore access i j cell value = (i < j) × (access i ≡ Some (cell, value))

-- ---- by the accesses of a step

-- the processor of access k, or the number of all processors past the last one
abbrev pub goer : ℕ → List Access → ℕ → ℕ
goer procs list k =
    (slice_index_or list k (record { processor = procs; cell = 0; value = 0 })).processor

-- All processors before that of access k were looked at. A mark is the number of an access.
abbrev pub HasSearched : Sharing → JobData → State → ℕ → List Access → ℕ → List ℕ →
    Option Meeting → Type 0
HasSearched sharing job state step list k marks found =
    HasLookedAt sharing job state step (goer job.procs list k) (map (goer job.procs list) marks)
    found
