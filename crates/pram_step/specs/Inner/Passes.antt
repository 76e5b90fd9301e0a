-- A pass over the processors that run.
use Rattle.std.specs.Prelude.{◌≡◌, ℕ, ◌<◌, ◌≤◌, ◌⊎◌, List, length, take, All}
use Rattle.std.specs.Prelude.{slice_index, slice_index_or, unwrap_or}
use Rattle.std.specs.List.Sorted.{IsStrictlyIncreasing}
use Rattle.pram_job.specs.Job.{JobData}
use Rattle.pram_step.specs.declared.lockstep.Turns.{Turns}
use Rattle.pram_machine.specs.declared.requests.Request.{Request}
use Rattle.pram_step.specs.declared.stores.Store.{Store}
use Rattle.pram_machine.specs.Machine.{State, counter, counter_place, place_count}
use Rattle.pram_machine.specs.Machine.{register_place}
use Rattle.pram_machine.specs.Instructions.{goes_to, request_in, requests_in}
use Rattle.pram_step.specs.Steps.{Agrees, IsNext, next_state, written}
use Rattle.pram_step.specs.Inner.Marks.{AreAsked}
use Rattle.pram_step.specs.Running.{AreRunning, SameCounters}

-- ---- who stands still

-- processor i's request changes nothing
abbrev pub ChangesNothing : JobData → State → ℕ → Type 0
ChangesNothing job state i = request_in job state i ≡ goes_to (counter job state i)

abbrev pub AllIdle : JobData → State → Type 0
AllIdle job state = (i : ℕ) → i < job.procs → ChangesNothing job state i

-- ---- a turn, and all turns

-- the place is processor i's counter, or a register of it
abbrev pub IsOwnPlace : JobData → ℕ → ℕ → Type 0
IsOwnPlace job i place = (place ≡ counter_place job i)
    ⊎ ((register_place job i 0 ≤ place) × (place < register_place job i 4))

-- what the request of processor i writes to places that are no cells is written
pub record IsMove (job : JobData) (i : ℕ) (request : Request) (old new : State) : Type 0 where
  pub len : length new ≡ length old
  pub cells : (cell : ℕ) → cell < job.cells → slice_index new cell ≡ slice_index old cell
  pub others : (place : ℕ) → job.cells ≤ place → place < length old →
      slice_index new place ≡ unwrap_or (written job place i request) (slice_index old place)

-- The processors below p have written to their own places, and nothing else was written.
pub record HaveMoved (job : JobData) (start : State) (p : ℕ) (now : State) : Type 0 where
  pub len : length now ≡ length start
  pub cells : (cell : ℕ) → cell < job.cells → slice_index now cell ≡ slice_index start cell
  pub moved : (i place : ℕ) → i < p → i < job.procs → IsOwnPlace job i place →
      slice_index now place ≡ slice_index (next_state job start) place
  pub left : (i place : ℕ) → p ≤ i → i < job.procs → IsOwnPlace job i place →
      slice_index now place ≡ slice_index start place

-- The processors below p have had their turns, and this many stores are asked for.
pub record IsPassed (job : JobData) (start : State) (p : ℕ) (now : State)
    (asked : List Store) (count : ℕ) : Type 0 where
  pub own : HaveMoved job start p now
  pub stores : AreAsked job.cells (requests_in job start) p asked count

-- ---- turn after turn

-- the processors below this come before the k-th of those that run
abbrev pub bound : JobData → List ℕ → ℕ → ℕ
bound job running k = slice_index_or running k job.procs

-- these are processors, in order, and there is room for what those that are left may ask for
pub record IsUnderWay (job : JobData) (running : List ℕ) (now : State) (asked : List Store)
    (turns : Turns) : Type 0 where
  pub within : All (λ i. i < job.procs) running
  pub rises : IsStrictlyIncreasing running
  pub places : length now ≡ place_count job
  pub room : length asked ≡ job.procs
  pub inside : turns.taken ≤ length running
  pub few : turns.stores ≤ bound job running turns.taken

-- the next processor stands at the instruction with this index
pub record StandsNext (job : JobData) (running : List ℕ) (now : State) (asked : List Store)
    (turns : Turns) (index : ℕ) : Type 0 where
  pub left : turns.taken < length running
  pub begun : IsUnderWay job running now asked turns
  pub here : counter job now (slice_index running turns.taken) ≡ index

-- Some turns more have been taken. Where those before were taken from some start, so are these.
pub record TurnsGoOn (job : JobData) (running : List ℕ) (now : State) (asked : List Store)
    (turns : Turns) (now' : State) (asked' : List Store) (turns' : Turns) : Type 0 where
  pub later : turns.taken < turns'.taken
  pub begun : IsUnderWay job running now' asked' turns'
  pub passed : (start : State) → length start ≡ place_count job → AreRunning job start running →
      IsPassed job start (bound job running turns.taken) now asked turns.stores →
      IsPassed job start (bound job running turns'.taken) now' asked' turns'.stores

-- ---- a step

-- the step agrees, and its next state is made
pub record IsMade (job : JobData) (old new : State) : Type 0 where
  pub agrees : Agrees job (requests_in job old)
  pub next : new ≡ next_state job old
  pub written : IsNext job (requests_in job old) old new

-- the next state is made, and those that ran are all that may run still
pub record IsAdvance (job : JobData) (running : List ℕ) (old new : State) : Type 0 where
  pub made : IsMade job old new
  pub runs : AreRunning job new running

-- the cells hold what they held
pub record SameCells (cells : ℕ) (old new : State) : Type 0 where
  pub len : length new ≡ length old
  pub same : take cells new ≡ take cells old

-- the turns of a step are taken, and none of its stores is made
pub record IsWithoutStores (job : JobData) (old new : State) : Type 0 where
  pub cells : SameCells job.cells old new
  pub counters : SameCounters job (next_state job old) new
