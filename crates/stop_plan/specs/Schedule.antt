-- The events of a plan, in the order in which one thread makes them.
use Rattle.std.specs.Prelude.{◌≡◌, ◌<◌, ◌+◌, ℕ, zero, suc, Bool}
use Rattle.std.specs.Prelude.{false, List, [], ◌∷◌, ◌++◌, if◌then◌else◌, replicate}
use Rattle.std.specs.List.{flat_map}
use Rattle.stop_plan.specs.declared.plan.Act.{Act}
use Rattle.stop_plan.specs.declared.plan.Act.TheVariants.{Go, Sleep, Back, Stop}
use Rattle.stop_plan.specs.declared.plan.Row.{Row}
use Rattle.stop_plan.specs.Plan.{PlanData}

-- how a world names the events of a worker: a step, the end for good, and the return
pub record Events (Event : Type 0) : Type 0 where
  pub go : ℕ → Event
  pub stop : ℕ → Event
  pub back : ℕ → Event

abbrev pub events_of_act : {Event : Type 0} → Events Event → ℕ → ℕ → Act → List Event
events_of_act events worker ticks Go = replicate ticks (events.go worker)
events_of_act events worker ticks Sleep = []
events_of_act events worker ticks Back = events.back worker ∷ []
events_of_act events worker ticks Stop = events.stop worker ∷ []

-- the events of the rows, row by row
abbrev pub events_of_rows : {Event : Type 0} → Events Event → List Row → List Event
events_of_rows events rows =
    flat_map (λ row. events_of_act events row.worker row.ticks row.act) rows

-- Whether a worker is neither stopped nor over, by the events so far. The world says which.
abbrev pub Running : Type 0 → Type 0
Running Event = List Event → ℕ → Bool

-- the events after one round over so many workers, from one on: a step for each that runs when its
-- turn comes
unfoldable pub after_turns : {Event : Type 0} → Events Event → Running Event → ℕ → ℕ → List Event →
    List Event
after_turns events runs worker zero sofar = sofar
after_turns events runs worker (suc more) sofar =
    after_turns events runs (worker + 1) more (if runs sofar worker then sofar ++ events.go worker
    ∷ [] else sofar)

-- the events after so many rounds
unfoldable pub after_rounds : {Event : Type 0} → Events Event → Running Event → ℕ → ℕ → List Event →
    List Event
after_rounds events runs workers zero sofar = sofar
after_rounds events runs workers (suc more) sofar =
    after_rounds events runs workers more (after_turns events runs 0 workers sofar)

-- no worker runs any more
abbrev pub NoneRuns : {Event : Type 0} → Running Event → ℕ → List Event → Type 0
NoneRuns runs workers sofar = (worker : ℕ) → worker < workers → runs sofar worker ≡ false

-- the schedule of a plan: the events of its rows, and then rounds over the workers until none runs
pub record IsSchedule {Event : Type 0} (events : Events Event) (runs : Running Event) (plan :
    PlanData) (schedule : List Event) : Type 0 where
  pub count : ℕ
  pub rounds : schedule ≡ after_rounds events runs plan.workers count
      (events_of_rows events plan.rows)
  pub over : NoneRuns runs plan.workers schedule
