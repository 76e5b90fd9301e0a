-- Lanes of a block that are known to stand together.
use Rattle.std.specs.Prelude.{◌≡◌, ◌<◌, ◌≤◌, ℕ, Bool, false, List, slice_index}
use Rattle.std.specs.Prelude.{slice_index_or, is_some}
use Rattle.walk_memory.specs.declared.as_one.Standing.{Standing}
use Rattle.walk_memory.specs.declared.as_one.Together.{Together}
use Rattle.walk_memory.specs.declared.memo.Memo.{Memo}

-- these lanes all stand there by these rows, and none acted in a later phase than this
abbrev pub StandThere : Standing → List ℕ → List ℕ → List ℕ → List ℕ → List Bool → Type 0
StandThere standing acted step settled counter stored =
    (k : ℕ) → standing.start ≤ k → k < standing.end →
    (slice_index counter k ≡ standing.at.counter) × (slice_index step k ≡ standing.at.step)
    × (slice_index settled k ≡ standing.at.settled)
    × (slice_index_or stored k false ≡ standing.at.stored)
    × (slice_index acted k ≤ standing.acted)

-- one that is known like this stands there, and acted in no later phase than this
pub record IsThere (at : Together) (phase : ℕ) (memo : Memo) : Type 0 where
  pub counter : memo.own.counter ≡ at.counter
  pub step : memo.step ≡ at.step
  pub settled : memo.settled ≡ at.settled
  pub stored : is_some memo.store ≡ at.stored
  pub acted : memo.acted ≤ phase

-- one that is known like this settled in step t, has no store, and acted in no later phase than
-- this
pub record IsDone (t phase : ℕ) (memo : Memo) : Type 0 where
  pub step : memo.step ≡ t
  pub settled : memo.settled ≡ t
  pub stored : is_some memo.store ≡ false
  pub acted : memo.acted ≤ phase
