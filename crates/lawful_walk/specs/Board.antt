-- Lawful words, and words that grow.
use Rattle.std.specs.Prelude.{◌≡◌, ◌≢◌, ◌⊎◌, ℕ, suc, ◌+◌, ◌-◌, ◌*◌, ◌/◌, ◌≤◌, ◌<◌, List}
use Rattle.std.specs.Prelude.{slice_index}
use Rattle.pram_job.specs.Job.{JobData, IsJob}
use Rattle.pram_job.specs.declared.instr.Rule.{Rule}
use Rattle.pram_job.specs.declared.instr.Rule.TheVariants.{Common, Priority, Crew}
use Rattle.pram_step.specs.Runs.{IsReached, AgreesAfter}
use Rattle.pram_step.specs.History.{Asks, Wins, part_after}
use Rattle.pram_words.specs.declared.phases.Kind.{Kind}
use Rattle.pram_words.specs.declared.phases.Kind.TheVariants.{Compute, Apply, Verify}
use Rattle.pram_words.specs.declared.words.Word.{Word}
use Rattle.pram_words.specs.declared.words.Word.TheVariants.{Conflict, Node, Asked, Position}
use Rattle.pram_words.specs.declared.words.Word.TheVariants.{Stored, Claim, Spare}
use Rattle.pram_words.specs.Stamps.{stamp_of, payload_of, stamped_word}
use Rattle.pram_words.specs.Words.{LayoutData, IsLayout, IsWord, IsAdmitted, grain, number_of}
use Rattle.pram_words.specs.Words.{places_of}
use Rattle.pram_words.specs.declared.layout.Form.{Form}
use Rattle.pram_words.specs.declared.layout.Form.TheVariants.{Compact, Wide}
use Rattle.pram_words.specs.Phases.{next_phase}
use Rattle.walkx.specs.Tasks.{claim_of}
use Rattle.walk_memory.specs.Blocks.{IsLayoutOf}
use Rattle.walkx.specs.Reads.{step_seen}
use Rattle.lawful_walk.specs.Lands.{Lands, last_landing, settled, settled_before, phase_claimed}
use Rattle.lawful_walk.specs.Lands.{phase_written}

-- what a word of the board holds
abbrev pub held : LayoutData → List ℕ → Word → ℕ
held layout words word = slice_index words (number_of layout word)

abbrev pub root : LayoutData → List ℕ → ℕ
root layout words = held layout words (Node 1)

abbrev pub conflict : LayoutData → List ℕ → ℕ
conflict layout words = held layout words Conflict

-- the node of the leaf of processor i: that of its block
abbrev pub leaf_of : LayoutData → ℕ → ℕ
leaf_of layout i = layout.leaves + i / grain layout

abbrev pub leaf : LayoutData → List ℕ → ℕ → ℕ
leaf layout words i = held layout words (Node (leaf_of layout i))

-- the stamp of a word of a place
abbrev pub stamp_at : LayoutData → List ℕ → ℕ → ℕ → ℕ
stamp_at layout words place which = stamp_of (held layout words (Stored place which))

-- *Fin*: the step that the words show to be finished
abbrev pub finished : LayoutData → List ℕ → ℕ
finished layout words = step_seen (root layout words) (conflict layout words)

-- ---- what is done where a leaf was raised to a phase of the step after t steps

-- the place was written in that step or a later one
abbrev pub IsLate : LayoutData → ℕ → ℕ → List ℕ → Type 0
IsLate layout t place words =
    (t < stamp_at layout words place 0) ⊎ (t < stamp_at layout words place 1)

-- one of the two words of a place has this stamp and this payload
abbrev pub HoldsNew : LayoutData → List ℕ → ℕ → ℕ → ℕ → Type 0
HoldsNew layout words place stamp value =
    (which : ℕ) × (which < 2) × (stamp_at layout words place which ≡ stamp)
    × (payload_of (held layout words (Stored place which)) ≡ value)

-- i's request words are those of the step
abbrev pub Raised : JobData → LayoutData → ℕ → List ℕ → ℕ → Type 0
Raised job layout t words i = (j : ℕ) → j < 3 → t < stamp_of (held layout words (Asked i j))

-- all that i writes and that gets a word is written
abbrev pub Carried : JobData → LayoutData → ℕ → List ℕ → ℕ → Type 0
Carried job layout t words i =
    (place value : ℕ) → Lands layout.form job t place i value → IsLate layout t place words

-- the same where its write wins
abbrev pub CarriedWon : JobData → LayoutData → ℕ → List ℕ → ℕ → Type 0
CarriedWon job layout t words i = (place value : ℕ) → Lands layout.form job t place i value →
    Wins job t place i → IsLate layout t place words

-- of its own places alone, and of cells alone
abbrev pub CarriedOwn : JobData → LayoutData → ℕ → List ℕ → ℕ → Type 0
CarriedOwn job layout t words i = (place value : ℕ) → Lands layout.form job t place i value →
    job.cells ≤ place → IsLate layout t place words

abbrev pub CarriedCell : JobData → LayoutData → ℕ → List ℕ → ℕ → Type 0
CarriedCell job layout t words i = (cell value : ℕ) → Asks job t cell i value →
    cell < job.cells → Wins job t cell i → IsLate layout t cell words

-- the cell that i writes is claimed by it, or more strongly
abbrev pub Claimed : JobData → LayoutData → ℕ → List ℕ → ℕ → Type 0
Claimed job layout t words i = (cell value : ℕ) → Asks job t cell i value → cell < job.cells →
    stamped_word (suc t) (claim_of job i) ≤ held layout words (Claim cell)

-- the step is known to be a conflict, or what i stored stands
abbrev pub Stays : JobData → LayoutData → ℕ → List ℕ → ℕ → Type 0
Stays job layout t words i = (conflict layout words ≡ suc t)
    ⊎ ((cell value : ℕ) → Asks job t cell i value → cell < job.cells →
    HoldsNew layout words cell (suc t) value)

-- the step is known to be a conflict, or i's claim stands
abbrev pub ClaimStays : JobData → LayoutData → ℕ → List ℕ → ℕ → Type 0
ClaimStays job layout t words i = (conflict layout words ≡ suc t)
    ⊎ ((cell value : ℕ) → Asks job t cell i value → cell < job.cells →
    payload_of (held layout words (Claim cell)) ≡ claim_of job i)

-- in the three passes of the compact form
abbrev pub CompactDone : Rule → Kind → JobData → LayoutData → ℕ → List ℕ → ℕ → Type 0
CompactDone Common Compute job layout t words i = Raised job layout t words i
CompactDone Common Apply job layout t words i = Carried job layout t words i
CompactDone Common Verify job layout t words i = Stays job layout t words i
CompactDone Priority Compute job layout t words i = Raised job layout t words i
CompactDone Priority Apply job layout t words i = Claimed job layout t words i
CompactDone Priority Verify job layout t words i = CarriedWon job layout t words i
CompactDone Crew Compute job layout t words i = Raised job layout t words i
CompactDone Crew Apply job layout t words i =
    Carried job layout t words i × Claimed job layout t words i
CompactDone Crew Verify job layout t words i = ClaimStays job layout t words i

-- and in the two of the wide form, which have the first and the last phase of a step
abbrev pub WideDone : Rule → Kind → JobData → LayoutData → ℕ → List ℕ → ℕ → Type 0
WideDone Common Compute job layout t words i = CarriedOwn job layout t words i
WideDone Common Apply job layout t words i = Unit {0}
WideDone Common Verify job layout t words i =
    CarriedCell job layout t words i × Stays job layout t words i
WideDone Priority Compute job layout t words i =
    CarriedOwn job layout t words i × Claimed job layout t words i
WideDone Priority Apply job layout t words i = Unit {0}
WideDone Priority Verify job layout t words i = CarriedCell job layout t words i
WideDone Crew Compute job layout t words i =
    CarriedOwn job layout t words i × Claimed job layout t words i
WideDone Crew Apply job layout t words i = Unit {0}
WideDone Crew Verify job layout t words i =
    CarriedCell job layout t words i × ClaimStays job layout t words i

abbrev pub DoneIn : Form → Rule → Kind → JobData → LayoutData → ℕ → List ℕ → ℕ → Type 0
DoneIn Compact rule kind job layout t words i = CompactDone rule kind job layout t words i
DoneIn (Wide grain) rule kind job layout t words i = WideDone rule kind job layout t words i

abbrev pub Done : Rule → Kind → JobData → LayoutData → ℕ → List ℕ → ℕ → Type 0
Done rule kind job layout = DoneIn layout.form rule kind job layout

-- in the step after t steps processor i writes no cell
abbrev pub StoresNone : JobData → ℕ → ℕ → Type 0
StoresNone job t i = (cell value : ℕ) → Asks job t cell i value → cell < job.cells → ⊥

-- of its own places it makes no write that gets a word
abbrev pub OwnNone : Form → JobData → ℕ → ℕ → Type 0
OwnNone form job t i = (place value : ℕ) → Lands form job t place i value → job.cells ≤ place → ⊥

-- in the pass of this kind, in the wide form, it has nothing to do
abbrev pub Rests : Form → Rule → Kind → JobData → ℕ → ℕ → Type 0
Rests form Common Compute job t i = OwnNone form job t i
Rests form Common Apply job t i = Unit {0}
Rests form Common Verify job t i = StoresNone job t i
Rests form Priority Compute job t i = OwnNone form job t i × StoresNone job t i
Rests form Priority Apply job t i = Unit {0}
Rests form Priority Verify job t i = StoresNone job t i
Rests form Crew Compute job t i = OwnNone form job t i × StoresNone job t i
Rests form Crew Apply job t i = Unit {0}
Rests form Crew Verify job t i = StoresNone job t i

-- the task of this kind is done for all processors of the block of a leaf
abbrev pub LeafDone : JobData → LayoutData → ℕ → Kind → ℕ → List ℕ → Type 0
LeafDone job layout t kind node words =
    (i : ℕ) → i < layout.procs → leaf_of layout i ≡ node → Done job.rule kind job layout t words i

-- the phases of the step after t steps
abbrev pub phase_in : ℕ → Kind → ℕ
phase_in t Compute = 3 * t + 1
phase_in t Apply = 3 * t + 2
phase_in t Verify = 3 * t + 3

-- ---- lawful words: the clauses, after so many finished steps

pub record IsTree (job : JobData) (layout : LayoutData) (words : List ℕ) : Type 0 where
  pub left : (node : ℕ) → 1 ≤ node → node < layout.leaves →
      held layout words (Node node) ≤ held layout words (Node (2 * node))
  pub right : (node : ℕ) → 1 ≤ node → node < layout.leaves →
      held layout words (Node node) ≤ held layout words (Node (2 * node + 1))
  pub near : layout.form ≡ Compact → (node : ℕ) → IsWord layout (Node node) →
      held layout words (Node node) ≤ root layout words + 1
  pub most : (node : ℕ) → IsWord layout (Node node) → held layout words (Node node) ≤ 3 * job.steps

-- a request word of processor i, part j
pub record IsAsked (job : JobData) (steps i j word : ℕ) : Type 0 where
  pub low : steps ≤ stamp_of word
  pub high : stamp_of word ≤ suc steps
  pub part : (t : ℕ) → stamp_of word ≡ suc t →
      IsReached job t × (payload_of word ≡ part_after job t i j)

-- a word that was written in the step after these steps, while that may be
pub record IsNew (form : Form) (job : JobData) (steps root place word : ℕ) : Type 0 where
  pub stamp : stamp_of word ≡ suc steps
  pub writer : ℕ
  pub lands : Lands form job steps place writer (payload_of word)
  pub wins : Wins job steps place writer
  pub stands : phase_written form job place steps ≤ next_phase form root

-- The two words of a place: the last two settled ones, in either order, or the
-- last one and a new one. The second word is written only when the first one was.
pub data IsPair (form : Form) (job : JobData) (steps root place first second : ℕ) : Type 0 where
  newer_first : first ≡ settled form job steps place →
      second ≡ settled_before form job steps place → IsPair form job steps root place first second
  newer_second : second ≡ settled form job steps place →
      first ≡ settled_before form job steps place → 1 ≤ stamp_of first →
      IsPair form job steps root place first second
  new_first : IsNew form job steps root place first → second ≡ settled form job steps place →
      IsPair form job steps root place first second
  new_second : IsNew form job steps root place second → first ≡ settled form job steps place →
      1 ≤ stamp_of first → IsPair form job steps root place first second

-- in the step after t steps a writer of the cell has this claim
pub record ClaimsFor (job : JobData) (t cell payload : ℕ) : Type 0 where
  pub writer : ℕ
  pub value : ℕ
  pub asks : Asks job t cell writer value
  pub is : payload ≡ claim_of job writer

-- A claim word: the greatest claim of the last step that wrote the cell (none with stamp 0), or one
-- of the step after these steps.
pub data IsClaimed (form : Form) (job : JobData) (steps root cell word : ℕ) : Type 0 where
  claimed_before : stamp_of word ≡ last_landing form job steps cell →
      ((t : ℕ) → stamp_of word ≡ suc t → ClaimsFor job t cell (payload_of word)
      × ((i value : ℕ) → Asks job t cell i value → claim_of job i ≤ payload_of word)) →
      IsClaimed form job steps root cell word
  claimed_now : stamp_of word ≡ suc steps → ClaimsFor job steps cell (payload_of word) →
      phase_claimed form steps ≤ next_phase form root → IsClaimed form job steps root cell word

-- word 0, if it is not 0, names the first conflict, and the last phase of its step comes or is over
pub record IsNamed (form : Form) (job : JobData) (found root : ℕ) : Type 0 where
  pub first : (t : ℕ) → found ≡ suc t → IsReached job t × (AgreesAfter job t → ⊥)
  pub near : (t : ℕ) → found ≡ suc t →
      (next_phase form root ≡ 3 * t + 3) ⊎ (root ≡ 3 * t + 3)

-- Words with so many finished steps: their state is reached; no node is above its children, nor in
-- the compact form far above the root; request words, places and claims are of these steps or of
-- the one after them; what the raised leaves stand for is done; of a leaf that is above the phase
-- that comes next the processors have nothing to do in the phases between; word 0 names the first
-- conflict, if any. The wide form has no requests.
pub record LawfulFor (job : JobData) (layout : LayoutData) (steps : ℕ)
    (words : List ℕ) : Type 0 where
  pub reached : IsReached job steps
  pub tree : IsTree job layout words
  pub asked : layout.form ≡ Compact → (i j : ℕ) → i < layout.procs → j < 3 →
      IsAsked job steps i j (held layout words (Asked i j))
  pub stored : (place : ℕ) → place < places_of layout →
      IsPair layout.form job steps (root layout words) place (held layout words (Stored place 0))
      (held layout words (Stored place 1))
  pub claimed : (cell : ℕ) → IsWord layout (Claim cell) →
      IsClaimed layout.form job steps (root layout words) cell (held layout words (Claim cell))
  pub done : (i : ℕ) (kind : Kind) → i < layout.procs → phase_in steps kind ≤ leaf layout words i →
      Done job.rule kind job layout steps words i
  pub ahead : (i t : ℕ) (kind : Kind) → i < layout.procs →
      next_phase layout.form (root layout words) < phase_in t kind →
      phase_in t kind ≤ leaf layout words i → Rests layout.form job.rule kind job t i
  pub named : IsNamed layout.form job (conflict layout words) (root layout words)

-- *lawful* words
abbrev pub Lawful : JobData → LayoutData → List ℕ → Type 0
Lawful job layout words = LawfulFor job layout (finished layout words) words

-- what holds of a board's words between any two steps
pub record Stands (job : JobData) (board : LayoutData) (words : List ℕ) : Type 0 where
  pub limits : IsJob job
  pub sizes : IsLayout board
  pub layout : IsLayoutOf job board
  pub admitted : IsAdmitted board job words
  pub lawful : Lawful job board words

-- ---- growth

-- A word of a place with this stamp is of a step that was not over, and where it stands for the
-- newer one of the two, of a later step than that: before it the older one was written.
abbrev pub IsAhead : LayoutData → List ℕ → ℕ → ℕ → ℕ → Type 0
IsAhead layout words place which stamp = (root layout words < 3 * stamp)
    × (stamp_at layout words place (1 - which) < stamp_at layout words place which →
    root layout words + 3 < 3 * stamp)

-- what may have become of a word: of a place, it is the same or has a stamp above both of the place
-- before, and is ahead
abbrev pub Up : LayoutData → List ℕ → Word → ℕ → ℕ → Type 0
Up layout words Conflict before later = before ≢ 0 → before ≡ later
Up layout words (Node node) before later = before ≤ later
Up layout words (Asked i j) before later = before ≤ later
Up layout words (Position worker) before later = Unit {0}
Up layout words (Stored place which) before later = (before ≡ later)
    ⊎ ((stamp_at layout words place 0 < stamp_of later)
    × (stamp_at layout words place 1 < stamp_of later)
    × (1 ≤ layout.leaves → IsAhead layout words place which (stamp_of later)))
Up layout words (Claim cell) before later = before ≤ later
Up layout words (Spare number) before later = before ≡ later

abbrev pub Grows : LayoutData → List ℕ → List ℕ → Type 0
Grows layout words later = (word : Word) → IsWord layout word →
    Up layout words word (held layout words word) (held layout later word)
