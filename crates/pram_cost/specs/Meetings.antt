-- Where processors meet at a cell in a step. One that reads a cell and one that writes it do not
-- meet: in a step all reads come before all writes.
use Rattle.std.specs.Prelude.{◌≡◌, ◌≢◌, ℕ, ◌+◌, ◌<◌, ◌≤◌, Option, Some, MatchOption}
use Rattle.std.specs.Option.{option_map}
use Rattle.pram_job.specs.Job.{JobData}
use Rattle.pram_cost.specs.declared.meeting.Meeting.{Meeting}
use Rattle.pram_cost.specs.declared.meeting.Sharing.{Sharing}
use Rattle.pram_cost.specs.declared.meeting.Sharing.TheVariants.{SameRead, SameWrite, OtherValue}
use Rattle.pram_machine.specs.Machine.{State, counter}
use Rattle.pram_cost.specs.Accesses.{cell_read_by, write_by}
use Rattle.pram_step.specs.Runs.{state_after}

-- the cell that processor i goes to, and the value that it writes there; of a read that is 0
abbrev pub access_by : Sharing → JobData → State → ℕ → Option (ℕ × ℕ)
access_by SameRead job state i = option_map (λ cell. (cell, 0)) (cell_read_by job state i)
access_by SameWrite job state i = write_by job state i
access_by OtherValue job state i = write_by job state i

-- which two accesses of one cell are a meeting
abbrev pub Differ : Sharing → ℕ → ℕ → ℕ → ℕ → Type 0
Differ SameRead i value j other = i ≢ j
Differ SameWrite i value j other = i ≢ j
Differ OtherValue i value j other = value ≢ other

-- of n processors with these accesses, i and j meet at the cell
pub record Meet (sharing : Sharing) (access : ℕ → Option (ℕ × ℕ)) (n cell i j : ℕ) : Type 0 where
  pub value : ℕ
  pub other : ℕ
  pub within : i < n
  pub within_too : j < n
  pub goes : access i ≡ Some (cell, value)
  pub goes_too : access j ≡ Some (cell, other)
  pub differ : Differ sharing i value j other

abbrev pub NoneMeet : Sharing → (ℕ → Option (ℕ × ℕ)) → ℕ → Type 0
NoneMeet sharing access n = (cell i j : ℕ) → Meet sharing access n cell i j → ⊥

-- The least cell at which two meet, the least processor that goes there, and the least that meets
-- that one there.
pub record IsLeastMeeting (sharing : Sharing) (access : ℕ → Option (ℕ × ℕ)) (n : ℕ) (meeting :
    Meeting) : Type 0 where
  pub meet : Meet sharing access n meeting.cell meeting.first meeting.second
  pub least_cell : (cell i j : ℕ) → Meet sharing access n cell i j → meeting.cell ≤ cell
  pub least_first : (i value : ℕ) → i < n → access i ≡ Some (meeting.cell, value) →
      meeting.first ≤ i
  pub least_second : (j : ℕ) → Meet sharing access n meeting.cell meeting.first j →
      meeting.second ≤ j

-- none meet, or this is the least meeting
abbrev pub IsLeastOrNone : Sharing → (ℕ → Option (ℕ × ℕ)) → ℕ → Option Meeting → Type 0
IsLeastOrNone sharing access n found =
    MatchOption found (NoneMeet sharing access n) (IsLeastMeeting sharing access n)

-- ---- in the steps of a job

-- processors i and j meet at the cell in the step after a state
abbrev pub MeetIn : Sharing → JobData → State → ℕ → ℕ → ℕ → Type 0
MeetIn sharing job state = Meet sharing (access_by sharing job state) job.procs

abbrev pub NoneMeetIn : Sharing → JobData → State → Type 0
NoneMeetIn sharing job state = NoneMeet sharing (access_by sharing job state) job.procs

-- the first of n steps in which two meet, the least meeting in it, and where its first processor
-- stands before that step
pub record IsFirstMeeting (sharing : Sharing) (job : JobData) (n : ℕ) (meeting : Meeting) :
    Type 0 where
  pub before : ℕ
  pub within : before < n
  pub step : meeting.step ≡ before + 1
  pub none_before : (t : ℕ) → t < before → NoneMeetIn sharing job (state_after job t)
  pub least : IsLeastMeeting sharing (access_by sharing job (state_after job before)) job.procs
      meeting
  pub stands : meeting.counter ≡ counter job (state_after job before) meeting.first

-- in n steps none meet, or this is the first meeting
abbrev pub IsFirstOrNone : Sharing → JobData → ℕ → Option Meeting → Type 0
IsFirstOrNone sharing job n found =
    MatchOption found ((t : ℕ) → t < n → NoneMeetIn sharing job (state_after job t))
    (IsFirstMeeting sharing job n)
