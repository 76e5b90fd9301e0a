-- The model of a worker's code.
use Rattle.std.specs.Prelude.{ℕ, List, Option}
use Rattle.walkx.specs.declared.operation.Activity.{Activity}
use Rattle.walkx.specs.declared.operation.Activity.TheVariants as activity
use Rattle.walkx.specs.declared.operation.Op.{Op}
use Rattle.walk_memory.specs.declared.memo.Memo.{Memo}
use Rattle.walkx.specs.Doing.{Doing}
use Rattle.walkx.specs.Doing as doing
use Rattle.walkx.specs.Walk.{Walking}

abbrev pub doing_in : Activity → Doing
doing_in (activity.Over end) = doing.Over end
doing_in (activity.Part phase rank) = doing.Part phase rank
doing_in (activity.Turn phase) = doing.Turn phase
doing_in activity.Begin = doing.Begin
doing_in activity.Back = doing.Back

-- a worker, and the operation that it is held at; none at the start of a script
pub record WorkerData : Type 0 where
  pub walking : Walking
  pub held_op : Option Op

-- by the fields of the code
abbrev pub worker_data : ℕ → Option ℕ → Activity → Option Op → List ℕ → List Memo → WorkerData
worker_data number node now held_op heard memory =
    record {
      walking = record {
        number = number;
        node = node;
        now = doing_in now;
        heard = heard;
        memory = memory;
      };
      held_op = held_op;
    }
