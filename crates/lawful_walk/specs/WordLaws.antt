-- What the laws of lawful words say.
use Rattle.std.specs.Prelude.{◌≡◌, ◌⊎◌, ℕ, suc, ◌*◌, ◌<◌, ◌≤◌, List, slice_index}
use Rattle.pram_job.specs.Job.{JobData, IsJob}
use Rattle.pram_machine.specs.Machine.{place_count}
use Rattle.pram_step.specs.Runs.{state_after}
use Rattle.pram_words.specs.declared.layout.Form.{Form}
use Rattle.pram_words.specs.declared.words.Word.TheVariants.{Stored}
use Rattle.pram_words.specs.Phases.{step_at}
use Rattle.pram_words.specs.Start.{start_words}
use Rattle.pram_words.specs.Words.{LayoutData, IsGrain, grain_of, layout_of, places_of}
use Rattle.pram_words.specs.Stamps.{newer_word, payload_of}
use Rattle.walkx.specs.Records.{Record}
use Rattle.lawful_walk.specs.Board.{held, stamp_at, finished, Stands}
use Rattle.lawful_walk.specs.Faithful.{FaithfulAnswers, Faithful}
use Rattle.lawful_walk.specs.Moments.{Backed, Sound}
use Rattle.lawful_walk.specs.Writes.{Floor, MayWrite}
use Rattle.lawful_walk.specs.Lands.{settled, landed_step}

-- The settled word of a place tells what the place holds: of a processor's own place in the wide
-- form what it held when the processor last settled.
abbrev pub SettledWordsTell : Type 0
SettledWordsTell = (form : Form) (job : JobData) (t place : ℕ) → IsJob job →
    place < place_count job →
    payload_of (settled form job t place)
    ≡ slice_index (state_after job (landed_step form job t place)) place

-- the words that a board starts with stand
abbrev pub StartWordsAreLawful : Type 0
StartWordsAreLawful = (job : JobData) (form : Form) (workers : ℕ) →
    IsJob job → IsGrain (grain_of form) → 1 ≤ workers →
    workers ≤ 64 →
    Stands job (layout_of job form workers) (start_words (layout_of job form workers) job)

-- what may be written while words stand, in a phase with its floor
abbrev pub WritesKeepWordsLawful : Type 0
WritesKeepWordsLawful = (job : JobData) (layout : LayoutData) (words : List ℕ) (phase t : ℕ) →
    Stands job layout words → 1 ≤ phase → phase ≤ 3 * job.steps →
    step_at phase ≡ suc t → Floor job layout phase t words → MayWrite job layout words phase t

-- Of a place after step t, the newest word that is no newer than t has the value that is told, if
-- there is one.
abbrev pub FinishedStepsAreHeld : Type 0
FinishedStepsAreHeld = (job : JobData) (layout : LayoutData) (words : List ℕ) (t place : ℕ) →
    Stands job layout words → place < places_of layout → t ≤ finished layout words →
    (stamp_at layout words place 0 ≤ t → t < stamp_at layout words place 1 →
    payload_of (held layout words (Stored place 0))
    ≡ slice_index (state_after job (landed_step layout.form job t place)) place)
    × (stamp_at layout words place 1 ≤ t → t < stamp_at layout words place 0 →
    payload_of (held layout words (Stored place 1))
    ≡ slice_index (state_after job (landed_step layout.form job t place)) place)
    × (stamp_at layout words place 0 ≤ t → stamp_at layout words place 1 ≤ t →
    payload_of
    (newer_word (held layout words (Stored place 0)) (held layout words (Stored place 1)))
    ≡ slice_index (state_after job (landed_step layout.form job t place)) place)

-- and after the last finished step there is one
abbrev pub LastFinishedStepIsHeld : Type 0
LastFinishedStepIsHeld = (job : JobData) (layout : LayoutData) (words : List ℕ) (place : ℕ) →
    Stands job layout words → place < places_of layout →
    (stamp_at layout words place 0 ≤ finished layout words)
    ⊎ (stamp_at layout words place 1 ≤ finished layout words)

-- a record that the words bear out
abbrev pub BackedIsFaithful : Type 0
BackedIsFaithful = (job : JobData) (layout : LayoutData) (past : Record) (words : List ℕ) →
    Backed job layout past words → Faithful job layout past words

-- a sound record, whatever the words have become
abbrev pub SoundIsFaithful : Type 0
SoundIsFaithful = (job : JobData) (layout : LayoutData) (past : Record) →
    Sound job layout past → FaithfulAnswers job layout past
