-- The board and the plan that the threads of a run share.
use Rattle.pram_board.specs.declared.task.Task.{Task}
use Rattle.pram_board.specs.Seats.{Desk}
use Rattle.stop_plan.specs.Plan.{PlanData}
use Rattle.pram_run.specs.declared.shared.Shared.{Shared}

abbrev pub board_of : {G : Type 0} → Shared G → Desk
board_of shared = shared.board.now

abbrev pub shared_task : {G : Type 0} → Shared G → Task
shared_task shared = (board_of shared).task

abbrev pub plan_of : {G : Type 0} → Shared G → PlanData
plan_of shared = shared.plan.now
