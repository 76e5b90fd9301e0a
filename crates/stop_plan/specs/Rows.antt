-- Rows that stand in no text: what is wrong with a row, and the plan that they are.
use Rattle.std.specs.Prelude.{◌≡◌, ◌<◌, ◌+◌, ℕ, List, Option, Some, None}
use Rattle.std.specs.Prelude.{Result, Ok, Err, if◌then◌else◌, nat_lt, take, option_and_then}
use Rattle.std.specs.List.{slice_get}
use Rattle.stop_plan.specs.declared.plan.PlanKind.{PlanKind}
use Rattle.stop_plan.specs.declared.plan.PlanKind.TheVariants.{BadWorker, BadNumber}
use Rattle.stop_plan.specs.declared.plan.Row.{Row}
use Rattle.stop_plan.specs.Plan.{PlanData}
use Rattle.stop_plan.specs.Records.{fault_below, ticks_end}

-- a row, or what is wrong with it by itself: it names a worker, with ticks that its act takes
abbrev pub judged_row : ℕ → Row → Result Row PlanKind
judged_row workers row =
    if nat_lt row.worker workers then (if nat_lt row.ticks (ticks_end row.act) then Ok row
    else Err BadNumber) else Err BadWorker

-- what is wrong with a row, given the rows before it
abbrev pub fault_after : ℕ → List Row → Row → Option PlanKind
fault_after workers before row = fault_below (judged_row workers row) before

-- what is wrong with the row of this index, counted from 0
unfoldable pub row_fault_at : ℕ → List Row → ℕ → Option PlanKind
row_fault_at workers rows index =
    option_and_then (fault_after workers (take index rows)) (slice_get rows index)

-- the plan is that of the rows, and none is bad
pub record IsPlanOf (workers : ℕ) (rows : List Row) (plan : PlanData) : Type 0 where
  pub faultless : (index : ℕ) → row_fault_at workers rows index ≡ None
  pub rows_kept : plan ≡ record { workers = workers; rows = rows }

-- the first bad row would be the record of this number below a header, and this is wrong with it
pub record FirstBadRow (workers : ℕ) (rows : List Row) (row : ℕ) (kind : PlanKind) : Type 0 where
  pub index : ℕ
  pub number : row ≡ index + 2
  pub fault : row_fault_at workers rows index ≡ Some kind
  pub first : (earlier : ℕ) → earlier < index → row_fault_at workers rows earlier ≡ None
