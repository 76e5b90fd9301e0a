-- What the requests so far put, and what is kept of their stores.
use Rattle.std.specs.Prelude.{◌≡◌, ℕ, ◌+◌, ◌<◌, ◌≤◌, List, length, vec_len, take}
use Rattle.std.specs.Prelude.{slice_get, slice_index, slice_index_or, Option, Some, MatchOption}
use Rattle.pram_job.specs.Job.{JobData}
use Rattle.pram_step.specs.declared.answer.Dispute.{Dispute}
use Rattle.pram_machine.specs.declared.requests.Request.{Request}
use Rattle.pram_step.specs.declared.stores.Store.{Store}
use Rattle.pram_step.specs.declared.stores.Stores.{Stores}
use Rattle.pram_machine.specs.Machine.{State}
use Rattle.pram_step.specs.Steps.{IsVerdict}

-- processor i's data goes to the place, and is the value
pub record PutsValue (requests : List Request) (place i value : ℕ) : Type 0 where
  pub request : Request
  pub request_is : slice_get requests i ≡ Some request
  pub puts : request.put ≡ Some (place, value)

-- processor i is the least whose data goes to the place, and this is its value
pub record PutsFirst (requests : List Request) (place i value : ℕ) : Type 0 where
  pub puts : PutsValue requests place i value
  pub least : (j other : ℕ) → PutsValue requests place j other → i ≤ j

-- no data goes to the place
abbrev pub PutsNone : List Request → ℕ → Type 0
PutsNone requests place = (i value : ℕ) → PutsValue requests place i value → ⊥

-- ---- what is kept of the stores

-- there is room for the stores of all processors, and a mark of each cell
pub record HasRoom (job : JobData) (stores : Stores) : Type 0 where
  pub asked : vec_len stores.asked ≡ job.procs
  pub marks : vec_len stores.marks ≡ job.cells

-- store k, as code reads it
abbrev pub store_at : List Store → ℕ → Store
store_at asked k = slice_index_or asked k (record { processor = 0; cell = 0; value = 0 })

-- store k is what these requests put
abbrev pub PutsStore : List Request → List Store → ℕ → Type 0
PutsStore requests asked k =
    PutsValue requests (store_at asked k).cell (store_at asked k).processor (store_at asked k).value

-- ---- the stores that are asked for

-- The stores that the processors below n ask for, this many, in their order: all data of these
-- requests that goes to cells.
pub record AreAsked (cells : ℕ) (requests : List Request) (n : ℕ) (asked : List Store)
    (count : ℕ) : Type 0 where
  pub within : (k : ℕ) → k < count → (store_at asked k).processor < n
  pub is_cell : (k : ℕ) → k < count → (store_at asked k).cell < cells
  pub puts : (k : ℕ) → k < count → PutsStore requests asked k
  pub rises : (j k : ℕ) → j < k → k < count →
      (store_at asked j).processor < (store_at asked k).processor
  pub all : (cell i value : ℕ) → cell < cells → i < n → PutsValue requests cell i value →
      (k : ℕ) × (k < count) × ((store_at asked k).processor ≡ i)

-- Where those of the processors before this one are taken up, its store is taken up too.
abbrev pub AsksNext : JobData → ℕ → Option (ℕ × ℕ) → List Store → ℕ → List Store → ℕ → Type 0
AsksNext job i put asked count asked' count' =
    (requests : List Request) (request : Request)
    → slice_get requests i ≡ Some request → request.put ≡ put
    → AreAsked job.cells requests i asked count → AreAsked job.cells requests (i + 1) asked' count'

-- ---- they are judged

-- The mark names the first store to the cell, which is one of the first k.
pub record MarksFirst (requests : List Request) (asked : List Store) (k cell mark : ℕ) :
    Type 0 where
  pub below : mark < k
  pub is_cell : (store_at asked mark).cell ≡ cell
  pub first : PutsFirst requests cell (store_at asked mark).processor (store_at asked mark).value

-- The first k stores are those of these requests: each cell that one goes to has the first one's
-- mark.
pub record AreMarked (cells : ℕ) (requests : List Request) (asked : List Store) (marks : List ℕ)
    (k : ℕ) : Type 0 where
  pub puts : (j : ℕ) → j < k → PutsStore requests asked j
  pub marked : (cell i value : ℕ) → cell < cells → PutsValue requests cell i value →
      MarksFirst requests asked k cell (slice_index marks cell)

-- they are marked so, and this is what they dispute
pub record AreJudged (job : JobData) (requests : List Request) (asked : List Store)
    (marks : List ℕ) (k : ℕ) (found : Option Dispute) : Type 0 where
  pub marked : AreMarked job.cells requests asked marks k
  pub verdict : IsVerdict job requests found

-- Where the first k stores are marked, the first one to the cell is found.
abbrev pub TellsFirst : List Store → List ℕ → ℕ → ℕ → Option Store → Type 0
TellsFirst asked marks k cell found =
    (cells : ℕ) (requests : List Request)
    → cell < cells → AreMarked cells requests asked marks k
    → MatchOption found (PutsNone requests cell)
    (λ first. PutsFirst requests cell first.processor first.value)

-- Where this was the dispute before a store, it is that one with the store, this being the first to
-- its cell.
abbrev pub JudgesStore : JobData → Option Dispute → Store → Store → Option Dispute → Type 0
JudgesStore job before first store found =
    (requests : List Request) → PutsValue requests store.cell store.processor store.value
    → PutsFirst (take store.processor requests) store.cell first.processor first.value
    → IsVerdict job (take store.processor requests) before
    → IsVerdict job (take (store.processor + 1) requests) found

-- Where the requests before that of store k were judged, that one is judged too.
abbrev pub JudgesNext : JobData → List Store → ℕ → List ℕ → Option Dispute →
    List ℕ → Option Dispute → Type 0
JudgesNext job asked k marks found marks' found' =
    (requests : List Request) → PutsStore requests asked k
    → AreJudged job (take (store_at asked k).processor requests) asked marks k found
    → AreJudged job (take ((store_at asked k).processor + 1) requests) asked marks' (k + 1) found'

-- This is what the requests dispute whose stores these are.
abbrev pub JudgesAll : JobData → List Store → Option Dispute → Type 0
JudgesAll job asked found =
    (requests : List Request) → AreAsked job.cells requests (length requests) asked (length asked)
    → IsVerdict job requests found

-- ---- the end of the step

-- The stores from n on were made, the last one first, and nothing else.
pub record AreStoredFrom (asked : List Store) (n : ℕ) (old new : State) : Type 0 where
  pub len : length new ≡ length old
  pub stored : (k : ℕ) → n ≤ k → k < length asked →
      ((j : ℕ) → n ≤ j → j < k → (store_at asked j).cell ≡ (store_at asked k).cell → ⊥) →
      slice_index new (store_at asked k).cell ≡ (store_at asked k).value
  pub kept : (place : ℕ) →
      ((k : ℕ) → n ≤ k → k < length asked → (store_at asked k).cell ≡ place → ⊥) →
      slice_index new place ≡ slice_index old place

-- Each cell holds what the first store to it stores, and nothing else changed.
abbrev pub AreStored : List Store → State → State → Type 0
AreStored asked old new = AreStoredFrom asked 0 old new
