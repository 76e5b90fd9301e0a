-- What holds of a world at every moment of every run.
use Rattle.std.specs.Prelude.{◌≡◌, ℕ, suc, ◌+◌, ◌*◌, ◌<◌, ◌≤◌, nat_le, if◌then◌else◌, List}
use Rattle.std.specs.Prelude.{slice_index, Option, Some, None, IfSome}
use Rattle.pram_job.specs.Job.{JobData}
use Rattle.pram_step.specs.Runs.{IsReached, state_after}
use Rattle.pram_words.specs.declared.words.Word.TheVariants.{Stored}
use Rattle.pram_words.specs.Stamps.{stamp_of, payload_of, newer_word}
use Rattle.pram_words.specs.Words.{LayoutData, IsWord, places_of}
use Rattle.pram_words.specs.Phases.{next_phase}
use Rattle.walkx.specs.declared.operation.Ended.{Ended}
use Rattle.walkx.specs.declared.operation.Ended.TheVariants.{Done, Conflict}
use Rattle.walkx.specs.Doing as doing
use Rattle.walkx.specs.Records.{Record, Knows}
use Rattle.walkx.specs.Walk.{Walking, Fits}
use Rattle.lawful_walk.specs.Board.{Grows, held, root, conflict, stamp_at, finished}
use Rattle.lawful_walk.specs.Moments.{Backed}
use Rattle.lawful_walk.specs.Walks.{IsConflict}
use Rattle.lawful_walk.specs.Lands.{IsLanded, phase_written, landed_step}
use Rattle.pram_world.specs.Worlds.{Act, WorldData, Walks, IsLawful, StaleChangesNothing}
use Rattle.pram_world.specs.Worlds.{world_after}

-- ---- what the words show of the machine

-- of the two words of a place the newest with a stamp up to this step
abbrev pub newest_by : ℕ → ℕ → ℕ → Option ℕ
newest_by step first second =
    if nat_le (stamp_of first) step
    then (if nat_le (stamp_of second) step then Some (newer_word first second) else Some first)
    else (if nat_le (stamp_of second) step then Some second else None)

abbrev pub newest_upto : LayoutData → List ℕ → ℕ → ℕ → Option ℕ
newest_upto layout words step place =
    newest_by step (held layout words (Stored place 0)) (held layout words (Stored place 1))

-- The word tells what the place holds after the step: of a processor's own place in the wide form
-- what it held when the processor last settled.
abbrev pub TellsPlace : JobData → LayoutData → ℕ → ℕ → ℕ → Type 0
TellsPlace job layout step place word =
    payload_of word ≡ slice_index (state_after job (landed_step layout.form job step place)) place

-- The words show t steps to be finished: the root is 3t, 3t + 1 or 3t + 2, or it is 3t + 3 and word
-- 0 names step t + 1. These steps are reached, and the words hold the machine's state after the
-- last of them, and of the earlier ones what they still have of it. A greater stamp is that of the
-- next step, in which the place gets a word, and there is none before the phase in which it does.
pub record ShowsMachine (job : JobData) (layout : LayoutData) (words : List ℕ) (t : ℕ) :
    Type 0 where
  pub low : 3 * t ≤ root layout words
  pub high : root layout words ≤ 3 * t + 3
  pub full : root layout words ≡ 3 * t + 3 → conflict layout words ≡ suc t
  pub reached : IsReached job t
  pub now : (place : ℕ) → place < places_of layout →
      (word : ℕ) × (newest_upto layout words t place ≡ Some word) ×
      TellsPlace job layout t place word
  pub before : (step place : ℕ) → step ≤ t → place < places_of layout →
      IfSome (newest_upto layout words step place) (TellsPlace job layout step place)
  pub next : (place which : ℕ) → IsWord layout (Stored place which) →
      t < stamp_at layout words place which →
      (stamp_at layout words place which ≡ suc t) × IsLanded layout.form job t place
      × (phase_written layout.form job place t ≤ next_phase layout.form (root layout words))

-- ---- a world between two acts

-- how a worker ended is true: the last step is finished, or word 0 names the first conflict
abbrev pub IsTrueEnd : JobData → LayoutData → List ℕ → Ended → Type 0
IsTrueEnd job layout words Done = (root layout words ≡ 3 * job.steps) × IsReached job job.steps
IsTrueEnd job layout words (Conflict step) = (conflict layout words ≡ step) × IsConflict job step

-- The words are admitted and lawful. They bear out the record of all atomic steps, which knows each
-- body that is a worker, and what that one remembers is true. They show the machine. Whatever
-- happens next, they grow, and a late worker changes none but its own position, and in the wide
-- form marks. Who is over tells the truth.
pub record Interleaves (world : WorldData) (made : Record) : Type 0 where
  pub lawful : IsLawful world
  pub backed : Backed world.job world.layout made world.words
  pub known : (body : ℕ) (walking : Walking) → Walks world body walking →
      Knows world.job world.layout made walking × Fits world.job world.layout walking
  pub shows : ShowsMachine world.job world.layout world.words (finished world.layout world.words)
  pub grows : (act : Act) → Grows world.layout world.words (world_after world act).words
  pub stale : (act : Act) → StaleChangesNothing world act (world_after world act)
  pub ends : (body : ℕ) (walking : Walking) (ended : Ended) → Walks world body walking →
      walking.now ≡ doing.Over ended → IsTrueEnd world.job world.layout world.words ended

-- there is such a record
abbrev pub IsInterleaved : WorldData → Type 0
IsInterleaved world = (made : Record) × Interleaves world made
