-- The rows of the plan that a seed gives.
use Rattle.std.specs.Prelude.{ℕ, zero, suc, ◌+◌, ◌*◌, ◌/◌, ◌%◌, ◌^◌, Bool, ◌&&◌, ◌==◌}
use Rattle.std.specs.Prelude.{List, [], ◌∷◌, ◌++◌, if◌then◌else◌}
use Rattle.stop_plan.specs.declared.plan.Act.{Act}
use Rattle.stop_plan.specs.declared.plan.Act.TheVariants.{Go, Sleep, Back, Stop}
use Rattle.stop_plan.specs.declared.plan.Row.{Row}
use Rattle.stop_plan.specs.Plan.{PlanData, is_stop, stops}

-- the random number after a number
unfoldable pub next_number : ℕ → ℕ
next_number number = (1664525 * number + 1013904223) % 2 ^ 32

-- one of so many, from 0 on, by the upper half of a number
abbrev pub pick : ℕ → ℕ → ℕ
pick many number = number / 2 ^ 16 % many

-- of eight picks five go, and one each sleeps, comes back and stops
abbrev pub picked_act : ℕ → Act
picked_act picked =
    if picked == 0 then Sleep else if picked == 1 then Back else if picked == 2 then Stop else Go

-- the act of a worker, which comes back where it would stop, if it is to survive
abbrev pub spared : Bool → Act → Act
spared survives act = if survives && is_stop act then Back else act

-- the ticks that an act takes of so many
abbrev pub ticks_of : Act → ℕ → ℕ
ticks_of Go ticks = ticks
ticks_of Sleep ticks = ticks
ticks_of Back ticks = 0
ticks_of Stop ticks = 0

-- a worker's row
abbrev pub plan_row : ℕ → Act → ℕ → Row
plan_row worker act ticks =
    record { worker = worker; act = act; ticks = ticks_of act ticks }

-- the row of the three numbers after a number: its worker, its act, and its ticks from 1 to 1000
abbrev pub row_after : (workers survivor number : ℕ) → Row
row_after workers survivor number =
    let worker = pick workers (next_number number) in
    let act = picked_act (pick 8 (next_number (next_number number))) in
    plan_row worker (spared (worker == survivor) act)
    (1 + pick 1000 (next_number (next_number (next_number number))))

-- so many rows, by the numbers after a number
unfoldable pub picked_rows : (workers survivor many number : ℕ) → List Row
picked_rows workers survivor zero number = []
picked_rows workers survivor (suc many) number = row_after workers survivor number
    ∷ picked_rows workers survivor many (next_number (next_number (next_number number)))

-- rows after others, but for those whose worker is stopped by then
unfoldable pub with_living : List Row → List Row → List Row
with_living before [] = before
with_living before (row ∷ rows) =
    with_living (if stops before row.worker then before else before ++ row ∷ []) rows

-- the worker that is never stopped
abbrev pub survivor_of : (workers seed : ℕ) → ℕ
survivor_of workers seed = seed % workers

-- the rows of a seed: eight for each worker, without those of workers that are stopped by then
abbrev pub random_rows : (workers seed : ℕ) → List Row
random_rows workers seed =
    with_living [] (picked_rows workers (survivor_of workers seed) (8 * workers) seed)

-- the plan of a seed for so many workers
abbrev pub random_plan : (workers seed : ℕ) → PlanData
random_plan workers seed = record { workers = workers; rows = random_rows workers seed }
