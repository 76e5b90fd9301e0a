-- What a run comes to whose answer is heard while its threads go on.
use Rattle.std.specs.Prelude.{◌≡◌, ◌≤◌, ℕ, Result}
use Rattle.std.specs.declared.alloc.AllocError.{AllocError}
use Rattle.pram_step.specs.declared.answer.RunAnswer.{RunAnswer}
use Rattle.stop_plan.specs.Plan.{PlanData}
use Rattle.pram_board.specs.declared.task.Task.{Task}
use Rattle.pram_board.specs.Seats.{SeatData, unites}
use Rattle.pram_run.specs.Obeyed.{AllObeyed, HasLooked, IsAnswered}
use Rattle.pram_run.specs.Running.{IsUnfinished}

-- how a run ends: with its answer, or out of memory
abbrev pub Ended : Type 0
Ended = Result RunAnswer AllocError

-- Of the plan's workers the first so many were started, and all of them where the answer is
-- unfinished. They obeyed it from the given seat, while another seat did this beside so many; and
-- the seat that joins all of these looked at the board, which told the answer.
pub record HasRunWith (Beside : ℕ → SeatData → Type 0) (task : Task) (plan : PlanData)
    (given later : SeatData) (answer : RunAnswer) : Type 0 where
  pub started : ℕ
  pub most : started ≤ plan.workers
  pub all : IsUnfinished answer → started ≡ plan.workers
  pub seat : SeatData
  pub obeyed : AllObeyed task plan.rows given started seat
  pub looker : SeatData
  pub beside : Beside started looker
  pub answered : IsAnswered task plan (unites seat looker) later answer

-- the other seat, from the given one too, looked at the board
abbrev pub HasRunBeside : Task → PlanData → SeatData → SeatData → RunAnswer → Type 0
HasRunBeside task plan given = HasRunWith (λ started. HasLooked given) task plan given
