-- What is known of a processor once its turn is taken.
use Rattle.std.specs.Prelude.{◌≡◌, ◌≤◌, ℕ, Some, None, suc}
use Rattle.pram_job.specs.Job.{JobData}
use Rattle.pram_machine.specs.declared.requests.Request.{Request}
use Rattle.pram_machine.specs.declared.turn.Turn.{Turn}
use Rattle.pram_machine.specs.Turns.{IsSorted, put_of}
use Rattle.pram_machine.specs.Machine.{IsDataPlace, out_of_range}
use Rattle.walk_memory.specs.Inner.Posts.{PostData, step_of, processor_of}
use Rattle.walk_memory.specs.OwnWrites.{cell_write}
use Rattle.walk_memory.specs.declared.memo.Memo.{Memo}
use Rattle.walk_memory.specs.Learned.{carried}
use Rattle.walk_memory.specs.Memory.{own_after}

-- a turn of the processor: its data goes to a cell or to one of its registers, and its counter to
-- an instruction, or it stops
pub record IsShaped (job : JobData) (i : ℕ) (turn : Turn) : Type 0 where
  pub place : (place value : ℕ) → put_of turn.put ≡ Some (place, value) → IsDataPlace job i place
  pub next : turn.next ≤ out_of_range job
  pub sorted : IsSorted job turn.put

-- what is known once its turn is taken, but for what its words tell
abbrev pub turned : PostData → Memo → Request → Memo
turned at memo request = record {
  acted = at.phase;
  step = step_of at;
  own = own_after at.job (processor_of at) memo.own request;
  settled = memo.settled;
  told = memo.told;
  store = cell_write at.job request.put;
}

-- and once it is taken in a step that it goes alone
abbrev pub stepped : JobData → ℕ → Memo → Request → Memo
stepped job i memo request = record memo {
  step = suc memo.step;
  own = own_after job i memo.own request;
  store = cell_write job request.put;
}

-- and once its words are written, where the turn stores nothing
abbrev pub landed : PostData → Memo → Memo
landed at taken = record {
  acted = at.phase;
  step = step_of at;
  own = taken.own;
  settled = step_of at;
  told = taken.own;
  store = None;
}

-- what is known once its store is carried out
abbrev pub stored : PostData → Memo → Memo
stored at memo = carried (step_of at) memo
