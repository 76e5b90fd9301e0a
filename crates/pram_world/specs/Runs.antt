-- Runs: what is done with a world, the record of all atomic steps so far, and what an observer has
-- loaded between.
use Rattle.std.specs.Prelude.{◌≢◌, ℕ, ◌+◌, ◌<◌, ◌==◌, ◌&&◌, if◌then◌else◌, List}
use Rattle.std.specs.Prelude.{[], ◌∷◌, slice_get, slice_index, Option, Some, None}
use Rattle.std.specs.List.{AllByRecursion}
use Rattle.std.specs.Option.{is_none}
use Rattle.pram_job.specs.Job.{JobData}
use Rattle.pram_words.specs.declared.layout.Form.{Form}
use Rattle.walkx.specs.declared.operation.Op.TheVariants.{Load}
use Rattle.walkx.specs.Operations.{answer}
use Rattle.walkx.specs.Records.{Record, empty, after}
use Rattle.walkx.specs.Walk.{ask_of, end_of}
use Rattle.pram_world.specs.Worlds.{Act, go, stop, back, start, load, Body, walks, stopped}
use Rattle.pram_world.specs.Worlds.{WorldData, world_begun, world_after, going}

-- the world, the record of all atomic steps of its bodies, and the observer's
pub record Run : Type 0 where
  pub world : WorldData
  pub made : Record
  pub loads : Record

abbrev pub run_begun : JobData → Form → ℕ → Run
run_begun job form workers =
    record { world = world_begun job form workers; made = empty; loads = empty }

-- the record with the next atomic step of this body, if it is a worker that is not over
abbrev pub noted_by : WorldData → Option Body → Record → Record
noted_by world None made = made
noted_by world (Some (stopped worker)) made = made
noted_by world (Some (walks walking)) made =
    if is_none (end_of walking.now) then after made (ask_of world.job world.layout walking)
    (answer world.words (ask_of world.job world.layout walking)) else made

abbrev pub noted : WorldData → Act → Record → Record
noted world (go body) made = noted_by world (slice_get world.bodies body) made
noted world _ made = made

-- the record with what the observer loads
abbrev pub observed : WorldData → Act → Record → Record
observed world (load word) loads = after loads (Load word) (slice_index world.words word)
observed world _ loads = loads

abbrev pub acted : Run → Act → Run
acted run act = record {
  world = world_after run.world act;
  made = noted run.world act run.made;
  loads = observed run.world act run.loads;
}

-- one after the other
abbrev pub all_acted : Run → List Act → Run
all_acted run [] = run
all_acted run (act ∷ acts) = all_acted (acted run act) acts

-- who starts is one of the workers
abbrev pub StartFits : ℕ → Act → Type 0
StartFits workers (start worker size) = worker < workers
StartFits workers _ = Unit {0}

abbrev pub StartsFit : ℕ → List Act → Type 0
StartsFit workers = AllByRecursion (StartFits workers)

-- ---- the steps of one body

-- how many atomic steps the body makes
abbrev pub steps_at : WorldData → ℕ → Act → ℕ
steps_at world body (go other) = if (other == body) && going world other then 1 else 0
steps_at world body _ = 0

abbrev pub steps_in : Run → ℕ → List Act → ℕ
steps_in run body [] = 0
steps_in run body (act ∷ acts) = steps_at run.world body act + steps_in (acted run act) body acts

-- it is neither stopped nor brought back
abbrev pub LeavesAlone : ℕ → Act → Type 0
LeavesAlone body (stop other) = other ≢ body
LeavesAlone body (back other size) = other ≢ body
LeavesAlone body _ = Unit {0}

abbrev pub AllLeave : ℕ → List Act → Type 0
AllLeave body = AllByRecursion (LeavesAlone body)
