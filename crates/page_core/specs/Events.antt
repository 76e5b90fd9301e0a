-- Events of a page, and the board after them.
use Rattle.std.specs.Prelude.{◌≡◌, ◌⊎◌, ℕ, ◌<◌, ◌≤◌, ◌==◌, if◌then◌else◌, List, [], ◌∷◌}
use Rattle.std.specs.Prelude.{length, map, take, slice_get, Some}
use Rattle.pram_job.specs.Job.{JobData}
use Rattle.pram_words.specs.declared.layout.Form.TheVariants.{Compact}
use Rattle.pram_world.specs.declared.event.Effect.{Effect}
use Rattle.pram_world.specs.declared.event.Event.TheVariants.{Go}
use Rattle.pram_world.specs.Laws.{IsLawfulRun}
use Rattle.pram_world.specs.Runs.{Run, acted, all_acted}
use Rattle.pram_world.specs.Worlds.{Act, go, stop, back, start, WorldData, start_compact}
use Rattle.pram_world.specs.Worlds.{world_after, nothing, shown}
use Rattle.walkx.specs.Records.{empty}
use Rattle.page_core.specs.declared.board.Event.{Event}
use Rattle.page_core.specs.declared.board.Hindrance.{Hindrance}
use Rattle.page_core.specs.declared.board.Hindrance.TheVariants.{Refused, BadWorkers, BadEvent}
use Rattle.page_core.specs.declared.codes.TheConstants.{WORKERS_MOST}
use Rattle.page_core.specs.declared.text.Refusal.TheVariants.{Memory}
use Rattle.page_core.specs.Texts.{OfJob, IsRefused}

-- what an event is: 0 an atomic step of the body of this number, 1 its loss, 2 its return, 3 one
-- body more, a twin of this worker
abbrev pub act_of_event : Event → Act
act_of_event event =
    if event.kind == 0 then go event.body
    else (if event.kind == 1 then stop event.body
    else (if event.kind == 2 then back event.body 0
    else start event.body 0))

-- there is such a body, or such a worker
abbrev pub IsKnown : WorldData → Event → Type 0
IsKnown world event =
    ((event.kind < 3) × (event.body < length world.bodies))
    ⊎ ((event.kind ≡ 3) × (event.body < world.layout.workers))

-- ---- what an event does

-- what an act shows
abbrev pub effect_by : WorldData → Act → Effect
effect_by world (go body) = shown world (Go body)
effect_by world _ = nothing

-- the event is known, and made
pub record IsEventMade (before : WorldData) (event : Event) (now : WorldData) (effect : Effect)
    : Type 0
  where
    pub known : IsKnown before event
    pub world : now ≡ world_after before (act_of_event event)
    pub effect_is : effect ≡ effect_by before (act_of_event event)

-- it is not known, or the call is out of memory
abbrev pub IsNotMade : WorldData → ℕ → Event → Hindrance → Type 0
IsNotMade world number event (Refused refusal) = refusal ≡ Memory
IsNotMade world number event BadWorkers = ⊥
IsNotMade world number event (BadEvent named) = (named ≡ number) × (IsKnown world event → ⊥)

-- ---- one event after the other, from a run

abbrev pub run_from : Run → List Event → Run
run_from run events = all_acted run (map act_of_event events)

-- all events are known when they come
abbrev pub AreKnown : Run → List Event → Type 0
AreKnown run [] = Unit {0}
AreKnown run (event ∷ events) = IsKnown run.world event
    × AreKnown (acted run (act_of_event event)) events

-- and lead to this world
pub record IsRunFrom (run : Run) (events : List Event) (now : WorldData) : Type 0 where
  pub known : AreKnown run events
  pub world : now ≡ (run_from run events).world

-- the event of this number is the first that is not known
pub record IsUnknown (run : Run) (events : List Event) (number : ℕ) : Type 0 where
  pub at : Event
  pub is : slice_get events number ≡ Some at
  pub known : AreKnown run (take number events)
  pub unknown : IsKnown (run_from run (take number events)).world at → ⊥

abbrev pub IsHinderedFrom : Run → List Event → Hindrance → Type 0
IsHinderedFrom run events (Refused refusal) = refusal ≡ Memory
IsHinderedFrom run events BadWorkers = ⊥
IsHinderedFrom run events (BadEvent number) = IsUnknown run events number

-- ---- the board of a text

-- on the board of a job, for so many workers, of which each is newly started
abbrev pub run_opened : JobData → ℕ → Run
run_opened job workers =
    record { world = start_compact job workers; made = empty; loads = empty }

-- the run of these events
abbrev pub run_of : JobData → ℕ → List Event → Run
run_of job workers events = run_from (run_opened job workers) events

-- Of the job that the text spells, for so many workers, after these events. It is a world of the
-- law of runs: the words are lawful and show the machine, and bear out the record of all steps.
pub record BoardAfter (workers : ℕ) (events : List Event) (world : WorldData) (job : JobData)
    : Type 0 where
  pub some : 1 ≤ workers
  pub most : workers ≤ WORKERS_MOST
  pub run : IsRunFrom (run_opened job workers) events world
  pub job_stays : world.job ≡ job
  pub lawful : IsLawfulRun job Compact workers (run_of job workers events)

abbrev pub IsBoardAfter : List ℕ → ℕ → List Event → WorldData → Type 0
IsBoardAfter text workers events world = OfJob text (BoardAfter workers events world)

-- why there is none
abbrev pub IsHindered : List ℕ → ℕ → List Event → Hindrance → Type 0
IsHindered text workers events (Refused refusal) = IsRefused text refusal
IsHindered text workers events BadWorkers = (workers < 1) ⊎ (WORKERS_MOST < workers)
IsHindered text workers events (BadEvent number) =
    OfJob text (λ job. IsUnknown (run_opened job workers) events number)
