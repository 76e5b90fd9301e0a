-- Laws of plans and their schedules.
use Rattle.std.specs.Prelude.{◌≡◌, ◌≢◌, ◌<◌, ◌⊎◌, ℕ, true, List, ◌∷◌, All, map}
use Rattle.stop_plan.specs.declared.plan.PlanKind.{PlanKind}
use Rattle.stop_plan.specs.declared.plan.PlanKind.TheVariants.{Memory}
use Rattle.stop_plan.specs.declared.plan.Row.{Row}
use Rattle.stop_plan.specs.Plan.{PlanData}
use Rattle.stop_plan.specs.Records.{FirstFault, PlanRecord, SpellsPlan, is_header, row_of_record}
use Rattle.stop_plan.specs.Rows.{FirstBadRow, IsPlanOf, judged_row}
use Rattle.stop_plan.specs.Schedule.{Events, IsSchedule, Running}

-- records spell at most one plan
abbrev pub OnePlan : Type 0
OnePlan = (workers : ℕ) (all : List PlanRecord) (plan other : PlanData) →
    SpellsPlan workers all plan →
    SpellsPlan workers all other → plan ≡ other

-- records have at most one first fault, which is never `Memory`
abbrev pub OnePlanFault : Type 0
OnePlanFault = (workers : ℕ) (all : List PlanRecord) (row other : ℕ) (kind another : PlanKind) →
    FirstFault workers all row kind → FirstFault workers all other another
    → (row ≡ other) × (kind ≡ another) × (kind ≢ Memory)

-- records spell a plan or have a first fault
abbrev pub PlanOrFault : Type 0
PlanOrFault = (workers : ℕ) (all : List PlanRecord)
    → ((plan : PlanData) × SpellsPlan workers all plan)
    ⊎ ((row : ℕ) × (kind : PlanKind) × FirstFault workers all row kind)

-- and never both
abbrev pub NeverBoth : Type 0
NeverBoth = (workers : ℕ) (all : List PlanRecord) (plan : PlanData) (row : ℕ) (kind : PlanKind) →
    SpellsPlan workers all plan → FirstFault workers all row kind → ⊥

-- each row of a plan names one of its workers
abbrev pub RowsNameWorkers : Type 0
RowsNameWorkers = (workers : ℕ) (all : List PlanRecord) (plan : PlanData) →
    SpellsPlan workers all plan
    → (plan.workers ≡ workers) × All (λ row. row.worker < workers) plan.rows

-- rows are judged as a text is whose records below the header say them
abbrev pub RowsAsTexts : Type 0
RowsAsTexts =
    (workers : ℕ) (header : PlanRecord) (below : List PlanRecord) (rows : List Row) →
    is_header header ≡ true → map (row_of_record workers) below ≡ map (judged_row workers) rows
    → ((plan : PlanData) → SpellsPlan workers (header ∷ below) plan → IsPlanOf workers rows plan)
    × ((row : ℕ) (kind : PlanKind) → FirstFault workers (header ∷ below) row kind →
    FirstBadRow workers rows row kind)

-- a plan has at most one schedule
abbrev pub OneSchedule : Type 0 → Type 0
OneSchedule Event =
    (events : Events Event) (runs : Running Event) (plan : PlanData) (schedule other : List Event)
    → IsSchedule events runs plan schedule → IsSchedule events runs plan other → schedule ≡ other
