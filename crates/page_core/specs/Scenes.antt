-- What is told of a board after events.
use Rattle.std.specs.Prelude.{◌≡◌, ◌⊎◌, ℕ, zero, suc, ◌+◌, ◌-◌, ◌<◌, ◌≤◌, ◌==◌, nat_lt, nat_le}
use Rattle.std.specs.Prelude.{◌||◌, if◌then◌else◌, min, List, length, take, slice_get}
use Rattle.std.specs.Prelude.{slice_index, slice_set, Option, Some, None, unwrap_or}
use Rattle.pram_words.specs.declared.phases.Kind.{Kind}
use Rattle.pram_words.specs.declared.phases.Kind.TheVariants.{Compute, Apply, Verify}
use Rattle.pram_words.specs.declared.words.Word.{Word}
use Rattle.pram_words.specs.declared.words.Word.TheVariants.{Conflict, Node, Asked, Position}
use Rattle.pram_words.specs.declared.words.Word.TheVariants.{Stored, Claim, Spare}
use Rattle.pram_words.specs.Phases.{step_at, kind_at}
use Rattle.pram_words.specs.Stamps.{stamp_of, payload_of}
use Rattle.pram_words.specs.Ways.{first_leaf_in}
use Rattle.pram_words.specs.declared.phases.TheConstants.{LAST_PHASE}
use Rattle.pram_words.specs.Words.{LayoutData, length_of, word_at}
use Rattle.walkx.specs.declared.operation.Ended.TheVariants as ended
use Rattle.walkx.specs.declared.operation.Op.{Op}
use Rattle.walkx.specs.declared.operation.Op.TheVariants.{Load, Store, Max, Swap, Over}
use Rattle.walkx.specs.declared.operation.Activity.{Activity}
use Rattle.walkx.specs.declared.operation.Activity.TheVariants as activity
use Rattle.pram_words.specs.Stamps as stamps
use Rattle.lawful_walk.specs.Board.{held, root, conflict, finished}
use Rattle.pram_world.specs.declared.event.Effect.{Effect}
use Rattle.pram_words.specs.declared.layout.Form.TheVariants.{Compact}
use Rattle.pram_world.specs.Runs.{Run}
use Rattle.pram_world.specs.Standings.{standing_of}
use Rattle.pram_world.specs.Worlds.{Body, WorldData, world_after}
use Rattle.pram_world.specs.declared.event.Standing.{Standing}
use Rattle.pram_world.specs.declared.event.Standing.TheVariants as standing
use Rattle.page_core.specs.declared.board.Event.{Event}
use Rattle.page_core.specs.declared.bodies.BodyRow.{BodyRow}
use Rattle.page_core.specs.declared.rows.EventRow.{EventRow}
use Rattle.page_core.specs.declared.rows.StepWord.{StepWord}
use Rattle.page_core.specs.declared.rows.StepMeaning.{StepMeaning}
use Rattle.page_core.specs.declared.scene.Scene.{Scene}
use Rattle.page_core.specs.declared.words.WordRow.{WordRow}
use Rattle.page_core.specs.declared.board.Hindrance.{Hindrance}
use Rattle.page_core.specs.declared.board.Hindrance.TheVariants.{Refused, BadWorkers, BadEvent}
use Rattle.page_core.specs.declared.codes.TheConstants.{DONE, NO_ROOM, BAD_WORKERS, BAD_EVENT}
use Rattle.page_core.specs.Texts.{OfJob, coded, refused_as}
use Rattle.page_core.specs.Events.{BoardAfter, IsHindered, act_of_event, run_opened, effect_by}
use Rattle.page_core.specs.Events.{run_from}

-- ---- words

-- what a word is: its form, which one, and its part
abbrev pub form_of : Word → ℕ
form_of Conflict = 0
form_of (Node node) = 1
form_of (Asked i j) = 2
form_of (Position worker) = 3
form_of (Stored place which) = 4
form_of (Claim cell) = 5
form_of (Spare number) = 6

abbrev pub which_of : Word → ℕ
which_of Conflict = 0
which_of (Node node) = node
which_of (Asked i j) = i
which_of (Position worker) = worker
which_of (Stored place which) = place
which_of (Claim cell) = cell
which_of (Spare number) = number

abbrev pub part_of_word : Word → ℕ
part_of_word Conflict = 0
part_of_word (Node node) = 0
part_of_word (Asked i j) = j
part_of_word (Position worker) = 0
part_of_word (Stored place which) = which
part_of_word (Claim cell) = 0
part_of_word (Spare number) = 0

-- the number of the older of the two words of a place
abbrev pub older_at : LayoutData → List ℕ → ℕ → ℕ
older_at layout words place =
    stamps.older (held layout words (Stored place 0)) (held layout words (Stored place 1))

-- 1 where a word is the newer of the two words of its place
abbrev pub newer_of : LayoutData → List ℕ → Word → ℕ
newer_of layout words (Stored place which) = if older_at layout words place == which then 0 else 1
newer_of layout words _ = 0

-- 1 where the word of a step, which held this before it, was the older one; the step changed no
-- other word
abbrev pub older_before : LayoutData → List ℕ → ℕ → Word → ℕ
older_before layout words before (Stored place zero) =
    if stamps.older before (held layout words (Stored place 1)) == 0 then 1 else 0
older_before layout words before (Stored place (suc which)) =
    if stamps.older (held layout words (Stored place 0)) before == 1 then 1 else 0
older_before layout words before _ = 0

abbrev pub word_in : LayoutData → List ℕ → ℕ → WordRow
word_in layout words number = record {
  value = slice_index words number;
  form = form_of (word_at layout number);
  which = which_of (word_at layout number);
  part = part_of_word (word_at layout number);
  newer = newer_of layout words (word_at layout number);
  stamp = stamp_of (slice_index words number);
  payload = payload_of (slice_index words number);
}

-- ---- bodies

abbrev pub pass_of : Kind → ℕ
pass_of Compute = 1
pass_of Apply = 2
pass_of Verify = 3

-- a worker that was lost
abbrev pub lost : ℕ → BodyRow
lost worker =
    record { phase = 0; worker = worker; doing = 0; node = 0; heard = 0; step = 0; pass = 0 }

-- a worker in a phase at a node, with so many answers heard
abbrev pub working_row : ℕ → BodyRow → ℕ → ℕ → BodyRow
working_row phase row node heard =
    record row {
      phase = phase;
      doing = 3;
      node = node;
      heard = heard;
      step = step_at phase;
      pass = pass_of (kind_at phase);
    }

-- a worker that does this at a node, with so many answers heard; the task of a processor of a
-- leaf's block is part of the turn there
abbrev pub active_row : Activity → BodyRow → ℕ → ℕ → BodyRow
active_row activity.Back row node heard = record row { doing = 1; node = 0; heard = heard }
active_row activity.Begin row node heard = record row { doing = 2; node = node; heard = heard }
active_row (activity.Turn phase) row node heard = working_row phase row node heard
active_row (activity.Part phase rank) row node heard = working_row phase row node heard
active_row (activity.Over ended.Done) row node heard =
    record row { doing = 4; node = node; heard = heard }
active_row (activity.Over (ended.Conflict step)) row node heard =
    record row { doing = 5; node = node; heard = heard; step = step }

abbrev pub standing_row : LayoutData → Standing → BodyRow
standing_row layout (standing.Walks worker at activity heard) =
    active_row activity (lost worker) (unwrap_or at (first_leaf_in layout worker)) heard
standing_row layout (standing.Stopped worker) = lost worker

abbrev pub body_row : LayoutData → Option Body → BodyRow
body_row layout None = lost 0
body_row layout (Some body) = standing_row layout (standing_of body)

-- a phase is one that a job can have
abbrev pub ActivityFits : Activity → Type 0
ActivityFits (activity.Turn phase) = phase ≤ LAST_PHASE
ActivityFits (activity.Part phase rank) = phase ≤ LAST_PHASE
ActivityFits _ = Unit {0}

abbrev pub PhaseFits : Standing → Type 0
PhaseFits (standing.Walks _ _ activity _) = ActivityFits activity
PhaseFits (standing.Stopped _) = Unit {0}

abbrev pub body_in : WorldData → ℕ → BodyRow
body_in world body = body_row world.layout (slice_get world.bodies body)

-- ---- what an event did, from one world to the next

abbrev pub kind_of_step : Option Op → ℕ
kind_of_step None = 0
kind_of_step (Some (Load word)) = 1
kind_of_step (Some (Store word value)) = 2
kind_of_step (Some (Max word value)) = 3
kind_of_step (Some (Swap word old new)) = 4
kind_of_step (Some (Over ended)) = 0

abbrev pub word_touched : Option Op → ℕ
word_touched None = 0
word_touched (Some (Load word)) = word
word_touched (Some (Store word value)) = word
word_touched (Some (Max word value)) = word
word_touched (Some (Swap word old new)) = word
word_touched (Some (Over ended)) = 0

abbrev pub step_word : Option Op → StepWord
step_word op = record { kind = kind_of_step op; word = word_touched op }

-- what the word of a step is, and whether it was the older word of its place; where none was made
-- the form is 7
abbrev pub step_meaning : LayoutData → List ℕ → StepWord → ℕ → StepMeaning
step_meaning layout words step before =
    if step.kind == 0 || nat_le (length_of layout) step.word
    then record { form = 7; which = 0; part = 0; older = 0 }
    else record {
      form = form_of (word_at layout step.word);
      which = which_of (word_at layout step.word);
      part = part_of_word (word_at layout step.word);
      older = older_before layout words before (word_at layout step.word);
    }

-- of an event that led to this world with this effect, the bodies before it being so many: a twin
-- is the next body
abbrev pub row_after_event : WorldData → Event → ℕ → Effect → EventRow
row_after_event world event bodies effect =
    let meaning =
    step_meaning world.layout world.words (step_word effect.op) effect.before in record {
      before = effect.before;
      after = effect.after;
      kind = kind_of_step effect.op;
      word = word_touched effect.op;
      form = meaning.form;
      which = meaning.which;
      part = meaning.part;
      older = meaning.older;
      event = event.kind;
      body = if nat_lt event.kind 3 then event.body else bodies;
      now = body_in world (if nat_lt event.kind 3 then event.body else bodies);
    }

abbrev pub event_row : WorldData → Event → EventRow
event_row world event = row_after_event (world_after world (act_of_event event)) event
    (length world.bodies)
    (effect_by world (act_of_event event))

-- the row of the event of this number is put where there is room for it
pub record IsNoted (row : EventRow) (from number : ℕ) (old new : List EventRow) : Type 0 where
  pub inside : from ≤ number → number - from < length old → new ≡ slice_set old (number - from) row
  pub outside : (from ≤ number → number - from < length old → ⊥) → new ≡ old

-- what the events from `from` on did, as many as there are rows for, from this run
abbrev pub AreShown : Run → List Event → ℕ → List EventRow → Type 0
AreShown run events from rows =
    (at : ℕ) (event : Event) → at < length rows → slice_get events (from + at) ≡ Some event
    → slice_get rows at ≡ Some (event_row (run_from run (take (from + at) events)).world event)

-- how many rows are written
abbrev pub count_shown : ℕ → ℕ → ℕ → ℕ
count_shown events from rows = min rows (events - from)

-- ---- the scene

abbrev pub no_scene : Scene
no_scene = record {
  status = coded DONE;
  root = 0;
  at = 0;
  words = 0;
  bodies = 0;
  rows = 0;
  leaves = 0;
  finished = 0;
  conflict = 0;
}

-- why there is none
abbrev pub hindered_as : Hindrance → Scene
hindered_as (Refused refusal) = record no_scene { status = refused_as refusal }
hindered_as BadWorkers = record no_scene { status = coded BAD_WORKERS }
hindered_as (BadEvent at) = record no_scene { status = coded BAD_EVENT; at = at }

-- what a world shows at a glance, so many rows being written
abbrev pub glance_of : WorldData → ℕ → Scene
glance_of world shown = record no_scene {
  root = root world.layout world.words;
  words = length_of world.layout;
  bodies = length world.bodies;
  rows = shown;
  leaves = world.layout.leaves;
  finished = finished world.layout world.words;
  conflict = conflict world.layout world.words;
}

-- the board of a text after events is this world, and what they did is told
abbrev pub IsWatched
    : List ℕ → ℕ → List Event → ℕ → List EventRow → WorldData → Type 0
IsWatched text workers events from rows world =
    OfJob text (λ job. BoardAfter workers events world job
    × AreShown (run_opened job workers) events from rows)

-- the front of the buffers holds the words and the bodies
abbrev pub AreWords : WorldData → List WordRow → Type 0
AreWords world words =
    (number : ℕ) → number < length_of world.layout →
    slice_get words number ≡ Some (word_in world.layout world.words number)

abbrev pub AreBodies : WorldData → List BodyRow → Type 0
AreBodies world bodies =
    (body : ℕ) → body < length world.bodies → slice_get bodies body ≡ Some (body_in world body)

-- the buffers have no room for them
abbrev pub HaveNoRoom : WorldData → List WordRow → List BodyRow → Type 0
HaveNoRoom world words bodies =
    (length words < length_of world.layout) ⊎ (length bodies < length world.bodies)

-- the words and the bodies are told; or there is no room for them, and how many there are is told
abbrev pub IsBoardTold : WorldData → ℕ → List WordRow → List BodyRow → Scene → Type 0
IsBoardTold world shown words bodies told =
    (AreWords world words × AreBodies world bodies × (told ≡ glance_of world shown))
    ⊎ (HaveNoRoom world words bodies
    × (told ≡ record (glance_of world shown) { status = coded NO_ROOM }))

-- what is told of the board of a text after events, and of what they did; or why there is none
abbrev pub IsScene
    : List ℕ → ℕ → List Event → ℕ → List EventRow → List WordRow → List BodyRow → Scene → Type 0
IsScene text workers events from rows words bodies told =
    OfJob text (λ job. (world : WorldData) × BoardAfter workers events world job
    × AreShown (run_opened job workers) events from rows
    × IsBoardTold world (count_shown (length events) from (length rows)) words bodies told)
    ⊎ ((hindrance : Hindrance) × IsHindered text workers events hindrance
    × (told ≡ hindered_as hindrance))

-- how many words and bodies are written, as is told
abbrev pub words_told : Scene → ℕ
words_told told = if told.status.code == DONE then told.words else 0

abbrev pub bodies_told : Scene → ℕ
bodies_told told = if told.status.code == DONE then told.bodies else 0
