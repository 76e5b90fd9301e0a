-- Threads that were started for the workers of a plan.
use Rattle.std.specs.Prelude.{◌≡◌, ◌<◌, ◌≤◌, ℕ, slice_index_or, vec_len}
use Rattle.stop_plan.specs.Plan.{PlanData}
use Rattle.pram_board.specs.Seats.{SeatData}
use Rattle.pram_run.specs.Inner.Obeying.{IsToObey}
use Rattle.pram_run.specs.declared.runner.Team.{Team}

-- Each thread is to obey the plan from the given seat, as the worker of its place.
pub record IsAtWork (plan : PlanData) (given : SeatData) (team : Team) : Type 0 where
  pub seat : team.seat ≡ given
  pub most : vec_len team.threads ≤ plan.workers
  pub promised : (k : ℕ) (d : _) → k < vec_len team.threads →
      IsToObey plan.rows k given (slice_index_or team.threads.items k d).promise
