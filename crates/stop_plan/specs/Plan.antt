-- What a contract sees of a plan.
use Rattle.std.specs.Prelude.{◌≡◌, ◌<◌, ℕ, Bool, true, false, List, ◌&&◌, ◌==◌}
use Rattle.std.specs.List.{list_any}
use Rattle.stop_plan.specs.declared.plan.Act.{Act}
use Rattle.stop_plan.specs.declared.plan.Act.TheVariants.{Go, Sleep, Back, Stop}
use Rattle.stop_plan.specs.declared.plan.Row.{Row}

pub record PlanData : Type 0 where
  pub workers : ℕ
  pub rows : List Row

abbrev pub is_stop : Act → Bool
is_stop Go = false
is_stop Sleep = false
is_stop Back = false
is_stop Stop = true

-- whether some row stops a worker
abbrev pub stops : List Row → ℕ → Bool
stops rows worker = list_any (λ row. is_stop row.act && (row.worker == worker)) rows

-- a row stops each worker
abbrev pub StopsAll : PlanData → Type 0
StopsAll plan = (worker : ℕ) → worker < plan.workers → stops plan.rows worker ≡ true
