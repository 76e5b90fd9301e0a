-- A worker between two scripts.
use Rattle.std.specs.Prelude.{ℕ, ◌==◌, if◌then◌else◌, List, [], length}
use Rattle.std.specs.Prelude.{Option, Some, None, option_map}
use Rattle.walk_memory.specs.declared.memo.Memo.{Memo}
use Rattle.walkx.specs.Doing.{Doing}
use Rattle.walkx.specs.Doing as doing
use Rattle.walkx.specs.Walk.{Walking}

-- the worker of this number, with this memory, at the start of a turn at this node in this phase
abbrev pub turning : ℕ → ℕ → ℕ → List Memo → Walking
turning number node phase memory = record {
  number = number;
  node = Some node;
  now = doing.Turn phase;
  heard = [];
  memory = memory;
}

-- and one that begins at this node
abbrev pub beginning : ℕ → ℕ → List Memo → Walking
beginning number node memory = record {
  number = number;
  node = Some node;
  now = doing.Begin;
  heard = [];
  memory = memory;
}

-- the node and the phase of a turn
abbrev pub turn_in : Doing → Option ℕ → Option (ℕ × ℕ)
turn_in doing.Back _ = None
turn_in doing.Begin _ = None
turn_in (doing.Turn phase) at = option_map (λ node. (node, phase)) at
turn_in (doing.Part _ _) _ = None
turn_in (doing.Over _) _ = None

-- those of the turn that the worker makes and has heard nothing of, if it makes one
abbrev pub turn_begun : Walking → Option (ℕ × ℕ)
turn_begun worker = if length worker.heard == 0 then turn_in worker.now worker.node else None
