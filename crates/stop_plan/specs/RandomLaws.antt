-- Laws of plans as texts, and of random plans.
use Rattle.std.specs.Prelude.{ℕ, ◌≤◌, ◌^◌, List}
use Rattle.stop_plan.specs.Plan.{PlanData, StopsAll}
use Rattle.stop_plan.specs.Records.{SpellsPlan, records_of}
use Rattle.stop_plan.specs.Rows.{IsPlanOf}
use Rattle.stop_plan.specs.declared.plan.Row.{Row}
use Rattle.stop_plan.specs.Random.{random_plan, random_rows}
use Rattle.stop_plan.specs.Texts.{plan_text}

-- the text of a plan's rows is read as that plan
abbrev pub TextSpellsPlan : Type 0
TextSpellsPlan = (workers : ℕ) (rows : List Row) (plan : PlanData) → workers ≤ 2 ^ 32 →
    IsPlanOf workers rows plan → SpellsPlan workers (records_of (plan_text rows)) plan

-- the rows of a seed are the plan's
abbrev pub RandomIsPlan : Type 0
RandomIsPlan = (workers seed : ℕ) → 1 ≤ workers →
    IsPlanOf workers (random_rows workers seed) (random_plan workers seed)

-- so its text is read as the plan of the seed
abbrev pub RandomTextSpells : Type 0
RandomTextSpells = (workers seed : ℕ) → 1 ≤ workers → workers ≤ 2 ^ 32 →
    SpellsPlan workers (records_of (plan_text (random_rows workers seed)))
    (random_plan workers seed)

-- the plan of a seed stops not every worker
abbrev pub RandomSparesOne : Type 0
RandomSparesOne = (workers seed : ℕ) → 1 ≤ workers → ¬ StopsAll (random_plan workers seed)
