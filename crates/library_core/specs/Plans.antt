-- The rows of a plan, in numbers.
use Rattle.std.specs.Prelude.{◌≡◌, ◌<◌, ℕ, List, length, map, Option, None, Some, ⊤}
use Rattle.std.specs.Prelude.{if◌then◌else◌}
use Rattle.pram_streams.specs.declared.transfer.TheConstants.{MOST}
use Rattle.stop_plan.specs.Plan.{PlanData}
use Rattle.stop_plan.specs.Records.{FirstFault, SpellsPlan, records_of}
use Rattle.stop_plan.specs.declared.plan.Act.{Act}
use Rattle.stop_plan.specs.declared.plan.Act.TheVariants.{Go, Sleep, Back, Stop}
use Rattle.stop_plan.specs.declared.plan.Row.{Row}
use Rattle.refusals.specs.declared.fault.CommandFault.{CommandFault}
use Rattle.refusals.specs.declared.fault.CommandFault.TheVariants.{Plan, PlanTooLarge, Memory}
use Rattle.refusals.specs.declared.refusal.TheConstants.{DONE}
use Rattle.library_core.specs.Requests.{is_bad_count}
use Rattle.library_core.specs.declared.fault.CallFault.{CallFault}
use Rattle.library_core.specs.declared.fault.CallFault.TheVariants as call
use Rattle.library_core.specs.declared.plan.PlanRow.{PlanRow}
use Rattle.library_core.specs.declared.request.RequestFault.{RequestFault}
use Rattle.library_core.specs.declared.request.RequestFault.TheVariants.{Workers}

abbrev pub number_of_act : Act → ℕ
number_of_act Go = 0
number_of_act Sleep = 1
number_of_act Back = 2
number_of_act Stop = 3

abbrev pub row_told : Row → PlanRow
row_told row = record { worker = row.worker; act = number_of_act row.act; ticks = row.ticks }

abbrev pub wrong_count : ℕ → Option RequestFault
wrong_count workers = if is_bad_count workers then Some Workers else None

-- The text spells a plan for so many workers, and these are its rows.
pub record AreRows (workers : ℕ) (text : List ℕ) (rows : List PlanRow) (status : ℕ) : Type 0 where
  pub right : wrong_count workers ≡ None
  pub plan : PlanData
  pub spells : SpellsPlan workers (records_of text) plan
  pub are : rows ≡ map row_told plan.rows
  pub is : status ≡ DONE

abbrev pub IsBadPlan : ℕ → (text : List ℕ) → CommandFault → Type 0
IsBadPlan workers text (Plan row kind) = FirstFault workers (records_of text) row kind
IsBadPlan workers text PlanTooLarge = MOST < length text
IsBadPlan workers text Memory = ⊤
IsBadPlan workers text _ = ⊥

-- there are no such workers, the text spells no plan for them or is too long, or memory ran out
abbrev pub IsNoPlan : ℕ → (text : List ℕ) → CallFault → Type 0
IsNoPlan workers text (call.Request fault) = wrong_count workers ≡ Some fault
IsNoPlan workers text (call.Command fault) =
    (wrong_count workers ≡ None) × IsBadPlan workers text fault
IsNoPlan workers text _ = ⊥
