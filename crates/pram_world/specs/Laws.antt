-- What holds of every run: of each job, rule and form of a board, with blocks of any size, and
-- bodies with memories of any size, each time that one starts or comes back another.
use Rattle.std.specs.Prelude.{◌≡◌, ℕ, ◌<◌, ◌≤◌, List, length}
use Rattle.pram_job.specs.Job.{JobData, IsJob}
use Rattle.pram_words.specs.declared.layout.Form.{Form}
use Rattle.pram_words.specs.declared.layout.Form.TheVariants.{Wide}
use Rattle.pram_words.specs.Words.{IsGrain, grain_of, layout_of}
use Rattle.walkx.specs.declared.operation.Reading.TheVariants.{At}
use Rattle.walkx.specs.Bound.{own_step_bound}
use Rattle.walkx.specs.Reads.{reader_script}
use Rattle.walkx.specs.Scripts.{ends, rest, heard_in}
use Rattle.walkx.specs.Walk.{Walking}
use Rattle.walk_memory.specs.Memory.{memo_of}
use Rattle.lawful_walk.specs.Board.{finished, leaf, root}
use Rattle.lawful_walk.specs.Moments.{Backed, afters}
use Rattle.lawful_walk.specs.Walks.{IsLawfulRead}
use Rattle.pram_world.specs.Interleavings.{Interleaves}
use Rattle.pram_world.specs.Runs.{Run, run_begun, all_acted, StartsFit, steps_in, AllLeave}
use Rattle.pram_world.specs.Worlds.{Act, Walks}

-- the job and the board stay, and the world is as said above, with the record of all atomic steps;
-- the observer's record is borne out too
pub record IsLawfulRun (job : JobData) (form : Form) (workers : ℕ) (run : Run) : Type 0 where
  pub job_stays : run.world.job ≡ job
  pub board_stays : run.world.layout ≡ layout_of job form workers
  pub interleaves : Interleaves run.world run.made
  pub observed : Backed run.world.job run.world.layout run.loads run.world.words

-- *every interleaving*: each beginning of a run is a run, so this holds at every moment
abbrev pub EveryInterleaving : Type 0
EveryInterleaving = (job : JobData) (form : Form) (workers : ℕ) (acts : List Act) → IsJob job →
    IsGrain (grain_of form) → 1 ≤ workers → workers ≤ 64 → StartsFit workers acts →
    IsLawfulRun job form workers (all_acted (run_begun job form workers) acts)

-- After such acts, an observer that reads a cell, whatever happens between its loads, has a lawful
-- read within five of them.
abbrev pub EveryReadIsLawful : Type 0
EveryReadIsLawful =
    (job : JobData) (form : Form) (workers : ℕ) (acts later : List Act) (cell step value : ℕ)
    (answers : List ℕ) →
    IsJob job → IsGrain (grain_of form) → 1 ≤ workers → workers ≤ 64 →
    StartsFit workers acts → StartsFit workers later →
    cell < job.cells →
    let layout = layout_of job form workers in let before =
    all_acted (run_begun job form workers) acts in let now = all_acted before later in
    rest (reader_script layout cell) answers ≡ ends (At step value) →
    now.loads ≡ afters before.loads (heard_in (reader_script layout cell) answers) →
    IsLawfulRead job layout before.loads now.loads cell step value
    × (length (heard_in (reader_script layout cell) answers) ≤ 5)

-- After such acts, a body makes no more atomic steps than the own-step bound, whatever happens,
-- until it is stopped or brought back.
abbrev pub EveryBodyIsBounded : Type 0
EveryBodyIsBounded =
    (job : JobData) (form : Form) (workers : ℕ) (acts later : List Act) (body : ℕ)
    (walking : Walking) →
    IsJob job → IsGrain (grain_of form) → 1 ≤ workers → workers ≤ 64 →
    StartsFit workers acts → StartsFit workers later →
    let layout = layout_of job form workers in let before =
    all_acted (run_begun job form workers) acts in
    Walks before.world body walking → AllLeave body later →
    steps_in before body later ≤ own_step_bound job

-- *What is said of memories is said of something*: in a run on a board with blocks of one
-- processor a body remembers processor 0 after a step that is not finished yet, having let it go on
-- alone, and has marked its leaf beyond the root.
pub record GoesAhead (run : Run) : Type 0 where
  pub body : ℕ
  pub walking : Walking
  pub walks : Walks run.world body walking
  pub step : finished run.world.layout run.world.words < (memo_of walking.memory 0).step
  pub marked : root run.world.layout run.world.words < leaf run.world.layout run.world.words 0

abbrev pub SomeGoAhead : Type 0
SomeGoAhead = (job : JobData) × (acts : List Act) × IsJob job × StartsFit 1 acts
    × GoesAhead (all_acted (run_begun job (Wide 1) 1) acts)
