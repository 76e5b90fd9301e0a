-- The model world: words, bodies that walk on them, and events.
use Rattle.std.specs.Prelude.{◌≡◌, ◌≢◌, ℕ, ◌≤◌, Bool, false, List}
use Rattle.std.specs.Prelude.{[], ◌∷◌, ◌++◌, length, map, take, slice_get}
use Rattle.std.specs.Prelude.{slice_index, slice_set, Option, Some, None}
use Rattle.std.specs.List.{range_with_len}
use Rattle.std.specs.Option.{is_none}
use Rattle.pram_job.specs.Job.{JobData}
use Rattle.pram_words.specs.declared.layout.Form.{Form}
use Rattle.pram_words.specs.declared.layout.Form.TheVariants.{Compact}
use Rattle.pram_words.specs.declared.words.Word.{Word}
use Rattle.pram_words.specs.declared.words.Word.TheVariants.{Position}
use Rattle.pram_words.specs.Start.{start_words}
use Rattle.pram_words.specs.Words.{LayoutData, IsWord, layout_of}
use Rattle.walkx.specs.declared.operation.Op.{Op}
use Rattle.walkx.specs.declared.operation.Op.TheVariants.{Load, Store, Max, Swap, Over}
use Rattle.walkx.specs.Operations.{words_after, answer}
use Rattle.walkx.specs.Walk.{Walking, ask_of, told, end_of, started, come_back, remembering}
use Rattle.lawful_walk.specs.Moments.{IsFixed}
use Rattle.lawful_walk.specs.Board.{Stands, held, root}
use Rattle.lawful_walk.specs.Walks.{phase_now}
use Rattle.pram_world.specs.declared.event.Effect.{Effect}
use Rattle.pram_world.specs.declared.event.Event.{Event}
use Rattle.pram_world.specs.declared.event.Event.TheVariants.{Go, Stop, Back}

-- a worker, or one that was stopped, of which the number is left
pub data Body : Type 0 where
  walks : Walking → Body
  stopped : ℕ → Body

abbrev pub number : Body → ℕ
number (walks walking) = walking.number
number (stopped worker) = worker

pub record WorldData : Type 0 where
  pub job : JobData
  pub layout : LayoutData
  pub words : List ℕ
  pub bodies : List Body

-- the words of the start on a board of this form, and no body
abbrev pub world_begun : JobData → Form → ℕ → WorldData
world_begun job form workers = record {
  job = job;
  layout = layout_of job form workers;
  words = start_words (layout_of job form workers) job;
  bodies = [];
}

-- the world of the code has the compact form, and each worker newly started
abbrev pub start_compact : JobData → ℕ → WorldData
start_compact job workers = record (world_begun job Compact workers) {
  bodies = map (λ worker. walks (started worker)) (range_with_len 0 workers);
}

-- ---- what happens

-- A body makes its next atomic step, or is stopped, or comes back as the worker of its number;
-- there is one body more, this worker newly started; an observer loads this word. Who comes back or
-- starts has a memory of so many processors, of which nothing is known yet.
pub data Act : Type 0 where
  go : ℕ → Act
  stop : ℕ → Act
  back : ℕ → ℕ → Act
  start : ℕ → ℕ → Act
  load : ℕ → Act

-- The body's next operation is made, and it hears the answer. One that is over asks for nothing,
-- and hears nothing.
abbrev pub went : WorldData → ℕ → Option Body → WorldData
went world body None = world
went world body (Some (stopped worker)) = world
went world body (Some (walks walking)) = record world {
  words = words_after world.words (ask_of world.job world.layout walking);
  bodies = slice_set world.bodies body
      (walks (told world.job world.layout walking
      (answer world.words (ask_of world.job world.layout walking))));
}

abbrev pub replaced : WorldData → ℕ → (ℕ → Body) → Option Body → WorldData
replaced world body new None = world
replaced world body new (Some old) =
    record world { bodies = slice_set world.bodies body (new (number old)) }

abbrev pub world_after : WorldData → Act → WorldData
world_after world (go body) = went world body (slice_get world.bodies body)
world_after world (stop body) = replaced world body stopped (slice_get world.bodies body)
world_after world (back body size) =
    replaced world body (λ worker. walks (remembering size (come_back worker)))
    (slice_get world.bodies body)
world_after world (start worker size) =
    record world { bodies = world.bodies ++ walks (remembering size (started worker)) ∷ [] }
world_after world (load word) = world

-- ---- events, which are acts of bodies without a memory

abbrev pub as_act : Event → Act
as_act (Go body) = go body
as_act (Stop body) = stop body
as_act (Back body) = back body 0

abbrev pub happens : WorldData → Event → WorldData
happens world event = world_after world (as_act event)

-- one event after the other
abbrev pub run : WorldData → List Event → WorldData
run world [] = world
run world (event ∷ events) = run (happens world event) events

-- the body of this number was added, a twin of this worker
abbrev pub IsTwinned : WorldData → ℕ → ℕ → WorldData → Type 0
IsTwinned world worker body now =
    (body ≡ length world.bodies) × (now ≡ world_after world (start worker 0))

-- the words stand: they are admitted and lawful
abbrev pub IsLawful : WorldData → Type 0
IsLawful world = Stands world.job world.layout world.words

-- the words stand between the events
abbrev pub IsLawfulThroughout : WorldData → List Event → Type 0
IsLawfulThroughout world events = (count : ℕ) → IsLawful (run world (take count events))

-- the job and the board are the same
abbrev pub KeepsBoard : WorldData → WorldData → Type 0
KeepsBoard world now = (now.job ≡ world.job) × (now.layout ≡ world.layout)

-- ---- what an event shows

abbrev pub nothing : Effect
nothing = record { op = None; before = 0; after = 0 }

-- an atomic step on a word
abbrev pub step_on : ℕ → List ℕ → Op → Effect
step_on word words op = record {
  op = Some op;
  before = slice_index words word;
  after =
      slice_index (words_after words op) word;
}

abbrev pub effect_of : List ℕ → Op → Effect
effect_of words (Load word) = step_on word words (Load word)
effect_of words (Store word value) = step_on word words (Store word value)
effect_of words (Max word value) = step_on word words (Max word value)
effect_of words (Swap word old new) = step_on word words (Swap word old new)
effect_of words (Over ended) = nothing

abbrev pub shown_by : WorldData → Option Body → Effect
shown_by world None = nothing
shown_by world (Some (stopped worker)) = nothing
shown_by world (Some (walks walking)) =
    effect_of world.words (ask_of world.job world.layout walking)

abbrev pub shown : WorldData → Event → Effect
shown world (Go body) = shown_by world (slice_get world.bodies body)
shown world (Stop body) = nothing
shown world (Back body) = nothing

-- ---- bodies

-- the body is this worker
abbrev pub Walks : WorldData → ℕ → Walking → Type 0
Walks world body walking = slice_get world.bodies body ≡ Some (walks walking)

-- it is neither stopped nor over
abbrev pub body_goes : Option Body → Bool
body_goes None = false
body_goes (Some (stopped worker)) = false
body_goes (Some (walks walking)) = is_none (end_of walking.now)

abbrev pub going : WorldData → ℕ → Bool
going world body = body_goes (slice_get world.bodies body)

-- *A stale write changes no word*: where the phase of a body is at most the root, its step changes
-- no word but its own position, and in the wide form marks, which rise.
abbrev pub StaleChangesNothing : WorldData → Act → WorldData → Type 0
StaleChangesNothing world (go body) now = (walking : Walking) → Walks world body walking →
    phase_now walking.now ≤ root world.layout world.words → (word : Word) →
    IsWord world.layout word →
    word ≢ Position walking.number → IsFixed world.layout.form word →
    held world.layout now.words word ≡ held world.layout world.words word
StaleChangesNothing world _ now = now.words ≡ world.words
