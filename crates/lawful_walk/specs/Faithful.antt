-- Which records are faithful: to the machine, to their own earlier answers, to the words of now.
use Rattle.std.specs.Prelude.{◌≡◌, ◌≢◌, ℕ, suc, ◌<◌, ◌≤◌, ◌==◌, max, [], ◌∷◌, List, slice_index}
use prog.Atomic.{either}
use Rattle.pram_job.specs.Job.{JobData}
use Rattle.pram_step.specs.History.{Wins, part_after}
use Rattle.pram_step.specs.Runs.{IsReached, state_after}
use Rattle.pram_words.specs.Stamps.{stamp_of, payload_of}
use Rattle.pram_words.specs.Words.{LayoutData, IsWord, number_of}
use Rattle.pram_words.specs.declared.layout.Form.{Form}
use Rattle.pram_words.specs.declared.layout.Form.TheVariants.{Compact}
use Rattle.pram_words.specs.declared.words.Word.{Word}
use Rattle.pram_words.specs.declared.words.Word.TheVariants.{Conflict, Node, Asked, Position}
use Rattle.pram_words.specs.declared.words.Word.TheVariants.{Stored, Claim, Spare}
use Rattle.walkx.specs.Records.{Record, empty, after, both, Has}
use Rattle.walkx.specs.declared.operation.Op.{Op}
use Rattle.walkx.specs.declared.operation.Op.TheVariants.{Load, Store, Max, Swap, Over}
use Rattle.lawful_walk.specs.Board.{held}
use Rattle.lawful_walk.specs.Lands.{Lands}
use Rattle.lawful_walk.specs.Seen.{Hears}

-- ---- an answer against the record before it

-- What remains of a word's value where it has another one later: nodes, request words, claims and
-- stamps of places never fall; word 0 keeps what is not 0.
abbrev pub Remains : Word → ℕ → ℕ → Type 0
Remains Conflict old new = old ≢ 0 → old ≡ new
Remains (Node node) old new = old ≤ new
Remains (Asked i j) old new = old ≤ new
Remains (Position worker) old new = Unit {0}
Remains (Stored place which) old new = stamp_of old ≤ stamp_of new
Remains (Claim cell) old new = old ≤ new
Remains (Spare number) old new = Unit {0}

-- what a step with this answer left in its word: raised it, or swapped the old value for the new
abbrev pub left_by : Op → ℕ → ℕ
left_by (Load number) found = found
left_by (Store number value) found = value
left_by (Max number value) found = max found value
left_by (Swap number old new) found = either (found == old) new found
left_by (Over ended) found = found

-- The word has this value after the record: what that heard from it, and left in it, remains.
pub record IsAfter (layout : LayoutData) (past : Record) (word : Word) (value : ℕ) : Type 0 where
  pub heard : (op : Op) (found : ℕ) →
      Hears op (number_of layout word) → Has past ((op, found) ∷ []) →
      Remains word found value
  pub left : (op : Op) (found : ℕ) →
      Hears op (number_of layout word) → Has past ((op, found) ∷ []) →
      Remains word (left_by op found) value

-- ---- an answer against the machine

-- a request word with stamp t + 1 has its part of the request after t steps
abbrev pub IsPart : JobData → ℕ → ℕ → ℕ → Type 0
IsPart job i j word = (t : ℕ) → stamp_of word ≡ suc t →
    IsReached job t × (payload_of word ≡ part_after job t i j)

-- a processor gives the place this value in the step after t steps, and its write counts
pub record IsGiven (form : Form) (job : JobData) (t place value : ℕ) : Type 0 where
  pub reached : IsReached job t
  pub writer : ℕ
  pub lands : Lands form job t place writer value
  pub wins : Wins job t place writer

-- a word of a place with stamp 0 has the start value, with stamp t + 1 one given after t steps
pub record IsValue (form : Form) (job : JobData) (place word : ℕ) : Type 0 where
  pub start : stamp_of word ≡ 0 → payload_of word ≡ slice_index (state_after job 0) place
  pub given : (t : ℕ) → stamp_of word ≡ suc t → IsGiven form job t place (payload_of word)

-- ---- records

-- one answer, and the record before it
pub record IsFaithful (job : JobData) (layout : LayoutData) (past : Record) (op : Op) (found : ℕ) :
    Type 0 where
  pub later : (word : Word) → IsWord layout word → Hears op (number_of layout word) →
      IsAfter layout past word found
  pub asked : layout.form ≡ Compact → (i j : ℕ) → i < layout.procs → j < 3 →
      Hears op (number_of layout (Asked i j)) → IsPart job i j found
  pub stored : (place which : ℕ) →
      IsWord layout (Stored place which) → Hears op (number_of layout (Stored place which)) →
      IsValue layout.form job place found

-- each answer against the record before it, part by part
abbrev pub FaithfulAnswers : JobData → LayoutData → Record → Type 0
FaithfulAnswers job layout empty = Unit {0}
FaithfulAnswers job layout (after past op found) =
    FaithfulAnswers job layout past × IsFaithful job layout past op found
FaithfulAnswers job layout (both past other) =
    FaithfulAnswers job layout past × FaithfulAnswers job layout other

-- and each word as it now stands against the record
pub record Faithful (job : JobData) (layout : LayoutData)
    (past : Record) (now : List ℕ) : Type 0 where
  pub answers : FaithfulAnswers job layout past
  pub words : (word : Word) → IsWord layout word → IsAfter layout past word (held layout now word)
