-- What the laws of workers, readers and their records say.
use Rattle.std.specs.Prelude.{◌≡◌, ◌≢◌, ℕ, suc, ◌<◌, ◌≤◌, List, length, slice_index}
use Rattle.pram_job.specs.Job.{JobData}
use Rattle.pram_step.specs.History.{part_after}
use Rattle.pram_step.specs.Runs.{IsReached, state_after}
use Rattle.pram_words.specs.declared.words.Word.{Word}
use Rattle.pram_words.specs.declared.words.Word.TheVariants.{Conflict, Node, Asked, Position}
use Rattle.pram_words.specs.declared.words.Word.TheVariants.{Stored}
use Rattle.pram_words.specs.Stamps.{stamp_of, payload_of, newer_word}
use Rattle.pram_words.specs.Words.{LayoutData, IsWord, number_of, places_of}
use Rattle.pram_words.specs.declared.layout.Form.TheVariants.{Compact}
use Rattle.walkx.specs.declared.operation.Ended.TheVariants as ended
use Rattle.walkx.specs.declared.operation.Op.{Op}
use Rattle.walkx.specs.declared.operation.Op.TheVariants.{Load}
use Rattle.walkx.specs.declared.operation.Reading.TheVariants.{At}
use Rattle.walkx.specs.Bound.{told_all, history_of, own_step_bound}
use Rattle.walkx.specs.Doing as doing
use Rattle.walkx.specs.Operations.{words_after, answer}
use Rattle.walkx.specs.Reads.{step_seen, reader_script}
use Rattle.walkx.specs.Records.{Record, after, both, Has, Knows}
use Rattle.walkx.specs.Scripts.{ends, rest, heard_in}
use Rattle.walkx.specs.Walk.{Walking, Fits, IsGoing, ask_of, told}
use Rattle.walk_memory.specs.Blocks.{IsBoard}
use Rattle.lawful_walk.specs.Board.{Stands, Grows, held, root, finished}
use Rattle.lawful_walk.specs.Moments.{Backed, IsFixed, WasBacked, Sound, afters}
use Rattle.lawful_walk.specs.Lands.{landed_step}
use Rattle.lawful_walk.specs.Seen.{Heard, KnowsStep}
use Rattle.lawful_walk.specs.Walks.{Moves, IsLawfulRead, DoneWell, IsConflict, ProgressWell}
use Rattle.lawful_walk.specs.Walks.{phase_now, steps_heard}

-- ---- a worker that a record knows, where the words bear the record out

abbrev pub WorkersKeepWordsLawful : Type 0
WorkersKeepWordsLawful =
    (job : JobData) (layout : LayoutData) (past : Record) (worker : Walking) (words : List ℕ) →
    Stands job layout words → Fits job layout worker → Knows job layout past worker →
    Backed job layout past words → Moves job layout past worker words

-- its phase is over: what still may change in the wide form are marks, which rise
abbrev pub LateWorkersChangeNothing : Type 0
LateWorkersChangeNothing =
    (job : JobData) (layout : LayoutData) (past : Record) (worker : Walking) (words : List ℕ) →
    Stands job layout words → Fits job layout worker → Knows job layout past worker →
    Backed job layout past words → phase_now worker.now ≤ root layout words →
    (word : Word) → IsWord layout word → word ≢ Position worker.number →
    IsFixed layout.form word →
    held layout (words_after words (ask_of job layout worker)) word ≡ held layout words word

-- the worker with the answer fits and is known, and what else was known is
abbrev pub KnownWorkersStayKnown : Type 0
KnownWorkersStayKnown =
    (job : JobData) (layout : LayoutData) (past : Record) (worker : Walking) (words : List ℕ) →
    Stands job layout words → Fits job layout worker → Knows job layout past worker →
    Backed job layout past words →
    let op = ask_of job layout worker in
    let found = answer words op in
    Fits job layout (told job layout worker found)
    × Knows job layout (after past op found) (told job layout worker found)
    × ((other : Walking) → Knows job layout past other →
    Knows job layout (after past op found) other)

-- it is still going with these answers, which the record has
abbrev pub RecordedStepsAreBounded : Type 0
RecordedStepsAreBounded =
    (job : JobData) (layout : LayoutData) (past : Record) (worker : Walking) (answers : List ℕ) →
    IsBoard job layout → Fits job layout worker →
    Sound job layout past → Has past (history_of job layout worker answers) →
    IsGoing (told_all job layout worker answers).now →
    length answers < own_step_bound job

-- with these steps the record has them, after what the worker had heard
abbrev pub HistoriesAreKept : Type 0
HistoriesAreKept =
    (job : JobData) (layout : LayoutData) (past : Record) (worker : Walking) (answers : List ℕ) →
    Knows job layout past worker →
    Has (afters past (steps_heard job layout worker answers)) (history_of job layout worker answers)

-- it is over
abbrev pub EndsAreTrue : Type 0
EndsAreTrue = (job : JobData) (layout : LayoutData) (past : Record) (worker : Walking) →
    Sound job layout past → Fits job layout worker → Knows job layout past worker →
    (worker.now ≡ doing.Over ended.Done → DoneWell job layout past)
    × ((conflict : ℕ) → worker.now ≡ doing.Over (ended.Conflict conflict) →
    Heard layout past Conflict conflict × IsConflict job conflict)

-- ---- records

abbrev pub RecordsOutliveGrowth : Type 0
RecordsOutliveGrowth =
    (job : JobData) (layout : LayoutData) (past : Record) (words later : List ℕ) →
    Backed job layout past words → Grows layout words later →
    Backed job layout past later × ((other : Record) → Backed job layout other later →
    Backed job layout (both past other) later)

abbrev pub LoadsKeepRecords : Type 0
LoadsKeepRecords =
    (job : JobData) (layout : LayoutData) (past : Record) (number : ℕ) (words : List ℕ) →
    Stands job layout words → Backed job layout past words →
    Backed job layout (after past (Load number) (slice_index words number)) words

abbrev pub BackedRecordsAreSound : Type 0
BackedRecordsAreSound = (job : JobData) (layout : LayoutData) (past : Record) (words : List ℕ) →
    Stands job layout words → Backed job layout past words → Sound job layout past

abbrev pub KnownStepsAreReached : Type 0
KnownStepsAreReached =
    (job : JobData) (layout : LayoutData) (past : Record) (t : ℕ) → Sound job layout past →
    KnowsStep layout past t → IsReached job t

-- the step is finished in all later words, and known to all longer records
abbrev pub KnownStepsLast : Type 0
KnownStepsLast =
    (job : JobData) (layout : LayoutData) (past : Record) (t : ℕ) (words later : List ℕ) →
    Stands job layout later → Backed job layout past words →
    Grows layout words later → KnowsStep layout past t →
    (t ≤ finished layout later) × ((op : Op) (found : ℕ) → KnowsStep layout (after past op found) t)

-- ---- what loads give, after a record

abbrev pub ReadsAreLawful : Type 0
ReadsAreLawful =
    (job : JobData) (layout : LayoutData)
    (before : Record) (cell step value : ℕ) (answers : List ℕ) →
    cell < layout.cells → rest (reader_script layout cell) answers ≡ ends (At step value) →
    WasBacked job layout (afters before (heard_in (reader_script layout cell) answers)) →
    IsLawfulRead job layout before
    (afters before (heard_in (reader_script layout cell) answers)) cell step value
    × (length (heard_in (reader_script layout cell) answers) ≤ 5)

-- the root, and then word 0
abbrev pub ProgressIsTrue : Type 0
ProgressIsTrue =
    (job : JobData) (layout : LayoutData) (before : Record) (root conflict : ℕ) → let later =
    after (after before (Load (number_of layout (Node 1))) root)
    (Load (number_of layout Conflict)) conflict in
    WasBacked job layout later →
    ProgressWell job layout before later (step_seen root conflict) conflict

-- both words of a place, the last step being known
abbrev pub FinalValuesAreHeld : Type 0
FinalValuesAreHeld =
    (job : JobData) (layout : LayoutData) (past : Record) (place first second : ℕ) →
    KnowsStep layout past job.steps → place < places_of layout →
    WasBacked job layout (after (after past (Load (number_of layout (Stored place 0))) first)
    (Load (number_of layout (Stored place 1))) second) →
    payload_of (newer_word first second)
    ≡ slice_index (state_after job (landed_step layout.form job job.steps place)) place

-- a request word of the compact form, word 0 having been heard as t + 1
abbrev pub ConflictRequestsAreHeld : Type 0
ConflictRequestsAreHeld = (job : JobData) (layout : LayoutData) (past : Record) (t i j found : ℕ) →
    layout.form ≡ Compact → Heard layout past Conflict (suc t) → i < layout.procs → j < 3 →
    WasBacked job layout (after past (Load (number_of layout (Asked i j))) found) →
    (stamp_of found ≡ suc t) × (payload_of found ≡ part_after job t i j)
