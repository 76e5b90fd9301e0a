-- What a worker is doing: which script is in progress, a turn being part of a phase.
use Rattle.std.specs.Prelude.{ℕ}
use Rattle.walkx.specs.declared.operation.Ended.{Ended}

-- It comes back, and loads its position; it begins, and looks for the phase; it makes a turn in
-- this phase; in this phase it does the task of the processor of this rank in its leaf's block, or,
-- after the last one's, marks the leaf; it is over.
pub data Doing : Type 0 where
  Back : Doing
  Begin : Doing
  Turn : ℕ → Doing
  Part : ℕ → ℕ → Doing
  Over : Ended → Doing
