-- A worker's next operation.
use Rattle.std.specs.Prelude.{◌≡◌, None}
use Rattle.walkx.specs.declared.operation.Op.{Op}
use Rattle.walkx.specs.Walk.{Walking, AsksAdmitted, IsStepOn, ask_of, end_of}
use Rattle.pram_board.specs.declared.task.Task.{Task}

-- the worker's next operation, which is admitted, and a step on the board where the worker is not
-- over
pub record IsNextOperation (task : Task) (worker : Walking) (op : Op) : Type 0 where
  pub is : op ≡ ask_of task.job task.layout worker
  pub admitted : AsksAdmitted task.job task.layout op
  pub step : end_of worker.now ≡ None → IsStepOn task.layout op
