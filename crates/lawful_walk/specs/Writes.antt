-- What a worker may write while the words stand: its phase is of the step after t steps.
use Rattle.std.specs.Prelude.{◌≡◌, ◌≢◌, ℕ, suc, ◌+◌, ◌*◌, ◌≤◌, ◌<◌, IsTrue, List, slice_index}
use Rattle.pram_job.specs.Job.{JobData}
use Rattle.pram_step.specs.History.{Asks, Wins, part_after}
use Rattle.pram_step.specs.Runs.{IsReached, AgreesAfter, state_after}
use Rattle.pram_words.specs.declared.layout.Form.TheVariants.{Compact, Wide}
use Rattle.pram_words.specs.declared.phases.Kind.{Kind}
use Rattle.pram_words.specs.declared.phases.Kind.TheVariants.{Compute, Verify}
use Rattle.pram_words.specs.declared.words.Word.{Word}
use Rattle.pram_words.specs.declared.words.Word.TheVariants.{Conflict, Node, Asked, Position}
use Rattle.pram_words.specs.declared.words.Word.TheVariants.{Stored, Claim}
use Rattle.pram_words.specs.Stamps.{stamped_word, payload_of, first_is_older, older, older_word}
use Rattle.pram_words.specs.Stamps.{newer_word}
use Rattle.pram_words.specs.Phases.{kind_at, has_phase, next_phase}
use Rattle.pram_words.specs.Words.{LayoutData, IsWord, number_of}
use Rattle.walkx.specs.declared.operation.Op.{Op}
use Rattle.walkx.specs.declared.operation.Op.TheVariants.{Store, Max, Swap}
use Rattle.walkx.specs.Operations.{words_after}
use Rattle.walkx.specs.Tasks.{claim_of}
use Rattle.lawful_walk.specs.Board.{held, leaf_of, phase_in, root, stamp_at, IsLate, LeafDone}
use Rattle.lawful_walk.specs.Board.{Rests}
use Rattle.lawful_walk.specs.Lands.{Lands, phase_claimed, phase_written, landed_step}
use Rattle.lawful_walk.specs.Moments.{IsFixed, Keeps}

-- Of a place whose two words were heard: the newer one has the value that they tell after t steps,
-- and the older one as heard still stands, or the place was written in step t + 1 or later.
pub record PlaceAsHeard (job : JobData) (layout : LayoutData) (t place first second : ℕ)
    (now : List ℕ) : Type 0 where
  pub value : payload_of (newer_word first second)
      ≡ slice_index (state_after job (landed_step layout.form job t place)) place
  pub stands : held layout now (Stored place (older first second)) ≡ older_word first second →
      (stamp_at layout now place 0 ≤ t) × (stamp_at layout now place 1 ≤ t)
      × (first_is_older (held layout now (Stored place 0)) (held layout now (Stored place 1))
      ≡ first_is_older first second)
  pub written : held layout now (Stored place (older first second)) ≢ older_word first second →
      IsLate layout t place now

-- the floor of the phase: the words stand in it or after it
pub record Floor (job : JobData) (layout : LayoutData) (phase t : ℕ) (words : List ℕ) : Type 0 where
  pub root : phase ≤ next_phase layout.form (root layout words)
  pub reached : IsReached job t
  pub is_phase : IsTrue (has_phase layout.form phase)

-- The operation keeps the words, and where the phase is over, they stay as they are.
pub record Does (job : JobData) (layout : LayoutData) (phase : ℕ) (op : Op)
    (words : List ℕ) : Type 0 where
  pub keeps : Keeps job layout op words
  pub still : phase ≤ root layout words → words_after words op ≡ words

-- A position's store keeps the words, whatever the phase, and changes no other word.
pub record MovesPosition (job : JobData) (layout : LayoutData) (worker node : ℕ)
    (words : List ℕ) : Type 0 where
  pub keeps : Keeps job layout (Store (number_of layout (Position worker)) node) words
  pub others : (word : Word) → IsWord layout word → word ≢ Position worker →
      held layout (words_after words (Store (number_of layout (Position worker)) node)) word
      ≡ held layout words word

-- What a turn of the phase marks a node with: the phase, or in the wide form a later one.
pub record IsMark (layout : LayoutData) (phase mark : ℕ) : Type 0 where
  pub low : phase ≤ mark
  pub is_phase : IsTrue (has_phase layout.form mark)
  pub compact : layout.form ≡ Compact → mark ≡ phase

-- The mark keeps the words; where the phase is over, it changes no word, in the wide form no other
-- one.
pub record Marks (job : JobData) (layout : LayoutData) (phase node mark : ℕ)
    (words : List ℕ) : Type 0 where
  pub keeps : Keeps job layout (Max (number_of layout (Node node)) mark) words
  pub still : phase ≤ root layout words → (word : Word) → IsWord layout word →
      IsFixed layout.form word →
      held layout (words_after words (Max (number_of layout (Node node)) mark)) word
      ≡ held layout words word

-- A leaf may be marked so in the phase: in the phases above that, up to the mark, its processors
-- have nothing to do.
pub record IsLeafMark (job : JobData) (layout : LayoutData) (phase node mark : ℕ) : Type 0 where
  pub formed : IsMark layout phase mark
  pub most : mark ≤ 3 * job.steps
  pub rests : (i t : ℕ) (kind : Kind) → i < layout.procs → leaf_of layout i ≡ node →
      phase < phase_in t kind → phase_in t kind ≤ mark → Rests layout.form job.rule kind job t i

-- the root's children are marked so, or more; or it is a leaf whose processors' work is done
pub record MayJump (job : JobData) (layout : LayoutData) (words : List ℕ) (phase t mark : ℕ) :
    Type 0 where
  pub children : 1 < layout.leaves →
      (mark ≤ held layout words (Node 2)) × (mark ≤ held layout words (Node 3))
  pub leaf : layout.leaves ≤ 1 → IsLeafMark job layout phase 1 mark
  pub done : layout.leaves ≤ 1 → root layout words < phase →
      LeafDone job layout t (kind_at phase) 1 words

-- A part of a request, in the compact form; a node whose children are marked so, or more, the root
-- up to the step's last phase, or in the first pass from where it stood; a leaf whose processors'
-- work is done, up to the phase, or as far as they have nothing to do; a place, by a write that
-- gets a word and wins, in its phase; the step, as a conflict, in its last phase; the claim of a
-- cell that is written, in its phase; a worker's position, as a node.
pub record MayWrite (job : JobData) (layout : LayoutData)
    (words : List ℕ) (phase t : ℕ) : Type 0 where
  pub request : layout.form ≡ Compact →
      (i j : ℕ) → i < layout.procs → j < 3 → kind_at phase ≡ Compute →
      Does job layout phase
      (Max (number_of layout (Asked i j)) (stamped_word (suc t) (part_after job t i j))) words
  pub inner : (node mark : ℕ) → 1 ≤ node → node < layout.leaves → IsMark layout phase mark →
      (node ≡ 1 → mark ≤ 3 * t + 3) →
      mark ≤ held layout words (Node (2 * node)) → mark ≤ held layout words (Node (2 * node + 1)) →
      Marks job layout phase node mark words
  pub leaf : (node mark : ℕ) → layout.leaves ≤ node → node < 2 * layout.leaves →
      IsLeafMark job layout phase node mark → (node ≡ 1 → mark ≤ 3 * t + 3) →
      (root layout words < phase → LeafDone job layout t (kind_at phase) node words) →
      Marks job layout phase node mark words
  pub jump : (grain mark : ℕ) → layout.form ≡ Wide grain → phase ≡ 3 * t + 1 →
      IsMark layout phase mark → mark ≤ 3 * job.steps → MayJump job layout words phase t mark →
      Does job layout phase (Swap (number_of layout (Node 1)) (3 * t) mark) words
  pub place : (place i value first second : ℕ) → i < layout.procs →
      phase ≡ phase_written layout.form job place t → Lands layout.form job t place i value →
      Wins job t place i → PlaceAsHeard job layout t place first second words →
      Does job layout phase
      (Swap (number_of layout (Stored place (older first second))) (older_word first second)
      (stamped_word (suc t) value)) words
  pub conflict : kind_at phase ≡ Verify → (AgreesAfter job t → ⊥) →
      Does job layout phase (Swap (number_of layout Conflict) 0 (suc t)) words
  pub claim : (cell i value : ℕ) → IsWord layout (Claim cell) →
      phase ≡ phase_claimed layout.form t → Asks job t cell i value →
      Does job layout phase
      (Max (number_of layout (Claim cell)) (stamped_word (suc t) (claim_of job i))) words
  pub position : (worker node : ℕ) → worker < layout.workers → 1 ≤ node → node < 2 * layout.leaves →
      MovesPosition job layout worker node words
