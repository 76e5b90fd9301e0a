-- The words of a board: which there are, where each lies, and what each may hold.
use Rattle.std.specs.Prelude.{◌≡◌, ◌≢◌, ◌↔◌, ℕ, Bool, true, false, IsTrue}
use Rattle.std.specs.Prelude.{◌+◌, ◌-◌, ◌*◌, ◌/◌, ◌%◌, ◌^◌, ◌<◌, ◌≤◌}
use Rattle.std.specs.Prelude.{◌==◌, ◌&&◌, min, nat_lt, if◌then◌else◌}
use Rattle.std.specs.Prelude.{List, length, slice_index}
use Rattle.std.specs.Int.{IsPowerOfTwo, div_ceil}
use Rattle.pram_job.specs.Job.{JobData}
use Rattle.pram_job.specs.Places.{counters_at, places_in, register_at}
use Rattle.pram_job.specs.declared.limits.TheConstants.{MAX_CELLS, MAX_PROCS}
use Rattle.pram_job.specs.declared.instr.Rule.{Rule}
use Rattle.pram_job.specs.declared.instr.Rule.TheVariants.{Common, Priority, Crew}
use Rattle.pram_words.specs.declared.layout.Form.{Form}
use Rattle.pram_words.specs.declared.layout.Form.TheVariants.{Compact, Wide}
use Rattle.pram_words.specs.declared.layout.OwnWords.{OwnWords}
use Rattle.pram_words.specs.declared.words.Word.{Word}
use Rattle.pram_words.specs.declared.words.Word.TheVariants.{Conflict, Node, Asked, Position}
use Rattle.pram_words.specs.declared.words.Word.TheVariants.{Stored, Claim, Spare}
use Rattle.pram_words.specs.Forms.{by_form}
use Rattle.pram_words.specs.Phases.{has_phase}
use Rattle.pram_words.specs.Stamps.{stamp_of, payload_of}
use Rattle.pram_words.specs.Tree.{leaves_of}

-- G: how many processors a leaf stands for, its *block*
abbrev pub grain_of : Form → ℕ
grain_of Compact = 1
grain_of (Wide grain) = grain

-- the form, L leaves, M cells, N processors, W workers, and whether each cell has a claim word
pub record LayoutData : Type 0 where
  pub form : Form
  pub leaves : ℕ
  pub cells : ℕ
  pub procs : ℕ
  pub workers : ℕ
  pub claims : Bool

abbrev pub layout_data : Form → ℕ → ℕ → ℕ → ℕ → Bool → LayoutData
layout_data form leaves cells procs workers claims = record {
  form = form;
  leaves = leaves;
  cells = cells;
  procs = procs;
  workers = workers;
  claims = claims;
}

abbrev pub grain : LayoutData → ℕ
grain layout = grain_of layout.form

-- a power of two up to 64
abbrev pub IsGrain : ℕ → Type 0
IsGrain size = IsPowerOfTwo size × (size ≤ 64)

-- the size of a block for so many processors: the least power of two that is at least as many, up
-- to 64
abbrev pub grain_for : ℕ → ℕ
grain_for procs = leaves_of (min procs 64)

-- the limits of a layout; its leaves are the least power of two with a place for each processor
pub record IsLayout (layout : LayoutData) : Type 0 where
  pub leaves : (1 ≤ layout.leaves) × (layout.leaves ≤ MAX_PROCS)
  pub block : IsGrain (grain layout)
  pub least : layout.leaves ≡ leaves_of (div_ceil layout.procs (grain layout))
  pub room : (layout.procs ≤ grain layout * layout.leaves)
      × (grain layout * layout.leaves ≤ MAX_PROCS)
  pub cells : (1 ≤ layout.cells) × (layout.cells ≤ MAX_CELLS)
  pub procs : (1 ≤ layout.procs) × (layout.procs ≤ MAX_PROCS)
  pub workers : (1 ≤ layout.workers) × (layout.workers ≤ 64)

abbrev pub has_claims : Rule → Bool
has_claims Common = false
has_claims Priority = true
has_claims Crew = true

-- the layout of a job's board, in a form, for so many workers
abbrev pub layout_of : JobData → Form → ℕ → LayoutData
layout_of job form workers =
    layout_data form (leaves_of (div_ceil job.procs (grain_of form))) job.cells job.procs workers
    (has_claims job.rule)

-- places: the cells, then four registers for each processor, then its counter
abbrev pub places_of : LayoutData → ℕ
places_of layout = places_in layout.cells layout.procs

-- the first counter's place: cells and registers lie below it
abbrev pub counters_of : LayoutData → ℕ
counters_of layout = counters_at layout.cells layout.procs

-- the words that a board needs
abbrev pub IsNeeded : LayoutData → Word → Type 0
IsNeeded layout Conflict = Unit {0}
IsNeeded layout (Node node) = (1 ≤ node) × (node < 2 * layout.leaves)
IsNeeded layout (Asked i j) = (layout.form ≡ Compact) × (i < layout.procs) × (j < 3)
IsNeeded layout (Position worker) = worker < layout.workers
IsNeeded layout (Stored place which) = (place < places_of layout) × (which < 2)
IsNeeded layout (Claim cell) = IsTrue layout.claims × (cell < layout.cells)
IsNeeded layout (Spare number) = ⊥

-- ---- the compact form: one kind after the other

-- the numbers of the first request word, position word, word of a place and claim word
abbrev pub requests_at : LayoutData → ℕ
requests_at layout = 2 * layout.leaves

abbrev pub positions_at : LayoutData → ℕ
positions_at layout = requests_at layout + 3 * layout.procs

abbrev pub places_at : LayoutData → ℕ
places_at layout = positions_at layout + layout.workers

abbrev pub claims_at : LayoutData → ℕ
claims_at layout = places_at layout + 2 * places_of layout

abbrev pub compact_number : LayoutData → Word → ℕ
compact_number layout Conflict = 0
compact_number layout (Node node) = node
compact_number layout (Asked i j) = requests_at layout + 3 * i + j
compact_number layout (Position worker) = positions_at layout + worker
compact_number layout (Stored place which) = places_at layout + 2 * place + which
compact_number layout (Claim cell) = claims_at layout + cell
compact_number layout (Spare number) = number

abbrev pub compact_word : LayoutData → ℕ → Word
compact_word layout number =
    if number == 0 then Conflict else (if nat_lt number (requests_at layout) then Node number
    else (if nat_lt number (positions_at layout) then Asked ((number - requests_at layout) / 3)
    ((number - requests_at layout) % 3)
    else (if nat_lt number (places_at layout) then Position (number - positions_at layout)
    else (if nat_lt number (claims_at layout)
    then Stored ((number - places_at layout) / 2) ((number - places_at layout) % 2)
    else Claim (number - claims_at layout)))))

-- ---- the wide form: word 0, each inner node and each position lie on a line of 8 words of their
-- own; then come the blocks, one for each leaf; then the cells, two words each, and the claims. A
-- block has five rows, with two words for each of its processors: row 0 has their counters, and row
-- 1 + r their registers r. Then comes its leaf's node; the rest of its last line is spare.

-- how many words a block has
abbrev pub block_words : ℕ → ℕ
block_words grain = 8 * ((10 * grain + 8) / 8)

-- the first word of the blocks, of a block, of a cell, and of a claim
abbrev pub blocks_at : LayoutData → ℕ
blocks_at layout = 8 * (layout.leaves + layout.workers)

abbrev pub block_at : LayoutData → ℕ → ℕ
block_at layout block = blocks_at layout + block * block_words (grain layout)

abbrev pub cells_at : LayoutData → ℕ
cells_at layout = block_at layout layout.leaves

abbrev pub wide_claims_at : LayoutData → ℕ
wide_claims_at layout = cells_at layout + 2 * layout.cells

-- the first word of processor i in a row
abbrev pub row_at : LayoutData → ℕ → ℕ → ℕ
row_at layout i row =
    block_at layout (i / grain layout) + 2 * (row * grain layout + i % grain layout)

-- the first word of a place: of a cell, a register or a counter
abbrev pub wide_place : LayoutData → ℕ → ℕ
wide_place layout place =
    if nat_lt place layout.cells then cells_at layout + 2 * place
    else (if nat_lt place (counters_of layout)
    then row_at layout ((place - layout.cells) / 4) (1 + (place - layout.cells) % 4)
    else row_at layout (place - counters_of layout) 0)

-- no word is that of a request
abbrev pub wide_number : LayoutData → Word → ℕ
wide_number layout Conflict = 0
wide_number layout (Node node) = if nat_lt node layout.leaves then 8 * node
    else block_at layout (node - layout.leaves) + 10 * grain layout
wide_number layout (Asked i j) = 0
wide_number layout (Position worker) = 8 * (layout.leaves + worker)
wide_number layout (Stored place which) = wide_place layout place + which
wide_number layout (Claim cell) = wide_claims_at layout + cell
wide_number layout (Spare number) = number

-- the word that begins a line
abbrev pub line_word : LayoutData → ℕ → Word
line_word layout line = if line == 0 then Conflict
    else (if nat_lt line layout.leaves then Node line else Position (line - layout.leaves))

-- the place that processor i has in a row
abbrev pub row_place : LayoutData → ℕ → ℕ → ℕ
row_place layout i row = if row == 0 then counters_of layout + i
    else register_at layout.cells i (row - 1)

-- the word of this number, which is one of processor i's in a row
abbrev pub row_word : LayoutData → ℕ → ℕ → ℕ → Word
row_word layout number i row =
    if nat_lt row 5 && nat_lt i layout.procs then Stored (row_place layout i row) (number % 2)
    else Spare number

-- the word of this number, which lies at this slot of a block
abbrev pub block_word : LayoutData → ℕ → ℕ → ℕ → Word
block_word layout number block slot =
    if slot == 10 * grain layout then Node (layout.leaves + block)
    else row_word layout number (block * grain layout + slot / 2 % grain layout)
    (slot / 2 / grain layout)

abbrev pub wide_word : LayoutData → ℕ → Word
wide_word layout number =
    if nat_lt number (blocks_at layout)
    then (if number % 8 == 0 then line_word layout (number / 8) else Spare number)
    else (if nat_lt number (cells_at layout)
    then block_word layout number ((number - blocks_at layout) / block_words (grain layout))
    ((number - blocks_at layout) % block_words (grain layout))
    else (if nat_lt number (wide_claims_at layout)
    then Stored ((number - cells_at layout) / 2) (number % 2)
    else Claim (number - wide_claims_at layout)))

-- ---- both forms

-- the number of a word
unfoldable pub number_of : LayoutData → Word → ℕ
number_of layout word = by_form layout.form (compact_number layout word) (wide_number layout word)

-- where the words of processor i begin: those of its counter, and of its registers
pub record AreOwn (layout : LayoutData) (i : ℕ) (own : OwnWords) : Type 0 where
  pub counter : number_of layout (Stored (counters_of layout + i) 0) ≡ own.counter
  pub register : (r : ℕ) → r < 4 →
      number_of layout (Stored (register_at layout.cells i r) 0) ≡ own.registers + own.stride * r

-- how many words a board has
unfoldable pub length_of : LayoutData → ℕ
length_of layout = by_form layout.form (claims_at layout) (wide_claims_at layout)
    + (if layout.claims then layout.cells else 0)

-- and how many at most: for 65,536 processors, 1,048,576 cells and 64 workers
abbrev pub most_length : LayoutData → ℕ
most_length layout = by_form layout.form 3080256 3670528
    + (if layout.claims then MAX_CELLS else 0)

-- the word of a number below the length
unfoldable pub word_at : LayoutData → ℕ → Word
word_at layout number = by_form layout.form (compact_word layout number) (wide_word layout number)

-- the words that a board has: those that it needs, and a spare one for each number below the length
-- that none of these has
abbrev pub IsWord : LayoutData → Word → Type 0
IsWord layout (Spare number) = (number < length_of layout)
    × ((word : Word) → IsNeeded layout word → number_of layout word ≢ number)
IsWord layout word = IsNeeded layout word

-- the words of a board and the numbers below its length stand one for one; in the compact form a
-- node's word has the node's number; the second word of a place follows the first
pub record IsNumbering (layout : LayoutData) : Type 0 where
  pub conflict : number_of layout Conflict ≡ 0
  pub node : layout.form ≡ Compact → (node : ℕ) → number_of layout (Node node) ≡ node
  pub second : (place : ℕ) →
      number_of layout (Stored place 1) ≡ number_of layout (Stored place 0) + 1
  pub apart : (word other : Word) → IsWord layout word → IsWord layout other →
      number_of layout word ≡ number_of layout other → word ≡ other
  pub below : (word : Word) → IsWord layout word → number_of layout word < length_of layout
  pub word : (number : ℕ) → number < length_of layout →
      IsWord layout (word_at layout number) × (number_of layout (word_at layout number) ≡ number)

-- a word with a stamp up to `steps` and a payload up to `most`
abbrev pub IsStamped : ℕ → ℕ → ℕ → Type 0
IsStamped steps most value = (stamp_of value ≤ steps) × (payload_of value ≤ most)

-- the greatest payload of a part of a request, and of a place: a data place plus 1, any value, a
-- counter
abbrev pub most_asked : LayoutData → JobData → ℕ → ℕ
most_asked layout job j = if j == 0 then counters_of layout
    else (if j == 1 then 2 ^ 32 - 1 else length job.code + 1)

abbrev pub most_stored : LayoutData → JobData → ℕ → ℕ
most_stored layout job place =
    if nat_lt place (counters_of layout) then 2 ^ 32 - 1 else length job.code + 1

-- the values that a word may have; a node has phases of the form
abbrev pub IsInRange : LayoutData → JobData → Word → ℕ → Type 0
IsInRange layout job Conflict value = value ≤ job.steps
IsInRange layout job (Node node) value =
    (value ≤ 3 * job.steps) × IsTrue (has_phase layout.form value)
IsInRange layout job (Asked i j) value = IsStamped job.steps (most_asked layout job j) value
IsInRange layout job (Position worker) value = (1 ≤ value) × (value < 2 * layout.leaves)
IsInRange layout job (Stored place which) value =
    IsStamped job.steps (most_stored layout job place) value
IsInRange layout job (Claim cell) value = IsStamped job.steps layout.procs value
IsInRange layout job (Spare number) value = value ≡ 0

-- the board has a word of this number, and the word may have this value
abbrev pub Admits : LayoutData → JobData → ℕ → ℕ → Type 0
Admits layout job number value =
    (number < length_of layout) × IsInRange layout job (word_at layout number) value

-- what a word may have is admitted at its number, and fits 64 bits
pub record HasRanges (layout : LayoutData) (job : JobData) : Type 0 where
  pub admitted : (word : Word) (value : ℕ) → IsWord layout word →
      IsInRange layout job word value ↔ Admits layout job (number_of layout word) value
  pub fits : (word : Word) (value : ℕ) → IsInRange layout job word value → value < 2 ^ 64

-- the words of a whole board, each with a value that it may have
pub record IsAdmitted (layout : LayoutData) (job : JobData) (words : List ℕ) : Type 0 where
  pub len : length words ≡ length_of layout
  pub in_range : (word : Word) → IsWord layout word →
      IsInRange layout job word (slice_index words (number_of layout word))
