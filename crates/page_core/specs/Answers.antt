-- What a board answers after events, and what readers of its cells get.
use Rattle.std.specs.Prelude.{◌≡◌, ℕ, ◌<◌, List, length, take, slice_get, Some}
use Rattle.pram_step.specs.declared.answer.RunAnswer.TheVariants as answer
use Rattle.walkx.specs.declared.operation.Reading.{Reading}
use Rattle.walkx.specs.declared.operation.Reading.TheVariants.{At}
use Rattle.walkx.specs.Operations as operations
use Rattle.walkx.specs.Reads.{reader_script}
use Rattle.walkx.specs.Records.{Record, after}
use Rattle.walkx.specs.Scripts.{Script, asks, ends}
use Rattle.pram_job.specs.Job.{JobData}
use Rattle.lawful_walk.specs.Walks.{IsLawfulRead}
use Rattle.pram_world.specs.Outcomes.{IsWorldOutcome}
use Rattle.pram_world.specs.Worlds.{WorldData}
use Rattle.page_core.specs.declared.board.Event.{Event}
use Rattle.page_core.specs.declared.board.Hindrance.{Hindrance}
use Rattle.page_core.specs.declared.board.Hindrance.TheVariants as hindrance
use Rattle.page_core.specs.declared.finding.Finding.{Finding}
use Rattle.page_core.specs.declared.finding.Finding.TheVariants.{Done, Conflict, Unfinished, NoRoom}
use Rattle.page_core.specs.declared.finding.Finding.TheVariants.{BadWorkers, BadEvent, Refused}
use Rattle.page_core.specs.declared.reads.ReadRow.{ReadRow}
use Rattle.page_core.specs.Events.{BoardAfter, IsBoardAfter, IsHindered, run_of}
use Rattle.page_core.specs.Texts.{OfJob}

-- why there is no board
abbrev pub finding_of : Hindrance → Finding
finding_of (hindrance.Refused refusal) = Refused refusal
finding_of hindrance.BadWorkers = BadWorkers
finding_of (hindrance.BadEvent number) = BadEvent number

abbrev pub IsNoBoard : List ℕ → ℕ → List Event → Finding → Type 0
IsNoBoard text workers events BadWorkers = IsHindered text workers events hindrance.BadWorkers
IsNoBoard text workers events (BadEvent number) =
    IsHindered text workers events (hindrance.BadEvent number)
IsNoBoard text workers events (Refused refusal) =
    IsHindered text workers events (hindrance.Refused refusal)
IsNoBoard text workers events _ = ⊥

-- the board of the text after the events is such a world
abbrev pub OfWorld : List ℕ → ℕ → List Event → (WorldData → Type 0) → Type 0
OfWorld text workers events holds =
    (world : WorldData) × IsBoardAfter text workers events world × holds world

-- ---- what the board answers: the front of the buffer holds the cells

abbrev pub IsOutcomeFound : List ℕ → ℕ → List Event → List ℕ → List ℕ → Finding → Type 0
IsOutcomeFound text workers events old cells (Done step count) =
    OfWorld text workers events
    (λ world. (step ≡ world.job.steps) × IsWorldOutcome world (answer.Final (take count cells)))
IsOutcomeFound text workers events old cells (Conflict fault count) =
    OfWorld text workers events
    (λ world. (count ≡ 0) × IsWorldOutcome world (answer.Conflict fault))
IsOutcomeFound text workers events old cells (Unfinished step) =
    OfWorld text workers events (λ world. IsWorldOutcome world (answer.Unfinished step))
IsOutcomeFound text workers events old cells (NoRoom needed) =
    OfWorld text workers events
    (λ world. (found : List ℕ) × IsWorldOutcome world (answer.Final found)
    × (needed ≡ length found) × (length old < needed))
IsOutcomeFound text workers events old cells finding = IsNoBoard text workers events finding

-- ---- what readers get

-- what comes of a script whose operations are all answered by these words
abbrev pub read_through : List ℕ → Script Reading → Reading
read_through words (asks op next) = read_through words (next (operations.answer words op))
read_through words (ends reading) = reading

abbrev pub row_of_read : Reading → ReadRow
row_of_read (At step value) = record { step = step; value = value }

-- what the reader of a cell gets
abbrev pub read_in : WorldData → ℕ → ReadRow
read_in world cell = row_of_read (read_through world.words (reader_script world.layout cell))

abbrev pub AreRead : WorldData → List ReadRow → Type 0
AreRead world rows =
    (cell : ℕ) → cell < world.job.cells → slice_get rows cell ≡ Some (read_in world cell)

-- the record after the loads of a script that are all answered by these words
abbrev pub record_loaded : List ℕ → Record → Script Reading → Record
record_loaded words past (asks op next) =
    let found = operations.answer words op in record_loaded words (after past op found) (next found)
record_loaded words past (ends reading) = past

-- *Lawful read*: each row is one of its cell, after the record of all atomic steps so far: what
-- the cell held after a step that is reached, none that any body knew before being later.
abbrev pub AreLawful : JobData → WorldData → Record → List ReadRow → Type 0
AreLawful job world made rows =
    (cell : ℕ) (row : ReadRow) → cell < job.cells → slice_get rows cell ≡ Some row →
    IsLawfulRead job world.layout made
    (record_loaded world.words made (reader_script world.layout cell)) cell row.step row.value

-- the rows of all cells, on this board, the record of all atomic steps on it being such a one
abbrev pub AreAllRead : JobData → WorldData → Record → ℕ → ℕ → List ReadRow → Type 0
AreAllRead job world made step count rows =
    (step ≡ 0) × (count ≡ job.cells) × AreRead world rows × AreLawful job world made rows

-- of a board: they are told, or there is no room for them
abbrev pub AreReadsTold : WorldData → List ReadRow → List ReadRow → Finding → Type 0
AreReadsTold world old rows (Done step count) =
    (step ≡ 0) × (count ≡ world.job.cells) × AreRead world rows
AreReadsTold world old rows (NoRoom needed) = (needed ≡ world.job.cells) × (length old < needed)
AreReadsTold world old rows _ = ⊥

abbrev pub AreReadsFound
    : List ℕ → ℕ → List Event → List ReadRow → List ReadRow → Finding → Type 0
AreReadsFound text workers events old rows (Done step count) =
    OfJob text (λ job. (world : WorldData) × BoardAfter workers events world job
    × AreAllRead job world (run_of job workers events).made step count rows)
AreReadsFound text workers events old rows (NoRoom needed) =
    OfWorld text workers events (λ world. AreReadsTold world old rows (NoRoom needed))
AreReadsFound text workers events old rows finding = IsNoBoard text workers events finding
