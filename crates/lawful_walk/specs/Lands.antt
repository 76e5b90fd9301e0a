-- Which of the machine's writes get a word, and what the words of a place are by the machine's
-- steps. Step t + 1 is the step after t steps.
use Rattle.std.specs.Prelude.{◌≡◌, ℕ, zero, suc, Bool, not, ◌+◌, ◌-◌, ◌*◌, ◌/◌, ◌<◌, ◌&&◌, ◌||◌}
use Rattle.std.specs.Prelude.{◌==◌, nat_lt, if◌then◌else◌, is_some, slice_index, true}
use Rattle.pram_job.specs.declared.instr.Rule.{Rule}
use Rattle.pram_job.specs.declared.instr.Rule.TheVariants.{Common, Priority, Crew}
use Rattle.pram_job.specs.Job.{JobData}
use Rattle.pram_job.specs.Places.{counters_at}
use Rattle.pram_step.specs.History.{Asks}
use Rattle.pram_step.specs.Runs.{requests_after, state_after}
use Rattle.pram_step.specs.Steps.{first_written}
use Rattle.pram_words.specs.declared.layout.Form.{Form}
use Rattle.pram_words.specs.declared.layout.Form.TheVariants.{Compact, Wide}
use Rattle.pram_words.specs.Stamps.{stamped_word}
use Rattle.pram_words.specs.Forms.{by_form}
use Rattle.walk_memory.specs.Memory.{cell_next, own_at, settled_at, settles}

-- ---- places of a processor's own, whose words lag in the wide form

abbrev pub is_counter : JobData → ℕ → Bool
is_counter job place = not (nat_lt place (counters_at job.cells job.procs))

-- the processor of a register or a counter
abbrev pub owner : JobData → ℕ → ℕ
owner job place = if is_counter job place then place - counters_at job.cells job.procs
    else (place - job.cells) / 4

-- the words of the place are of no processor's own: each write changes them
abbrev pub IsShared : Form → JobData → ℕ → Type 0
IsShared Compact job place = Unit {0}
IsShared (Wide grain) job place = place < job.cells

-- the step after which a place held what its words tell after t steps
abbrev pub landed_step : Form → JobData → ℕ → ℕ → ℕ
landed_step form job t place =
    by_form form t (if nat_lt place job.cells then t else settled_at job t (owner job place))

-- ---- the writes that get a word

-- step t + 1 writes the place
abbrev pub is_written : JobData → ℕ → ℕ → Bool
is_written job t place = is_some (first_written job place 0 (requests_after job t))

-- In each step in which a processor settles a word is written, so that the newest one tells when it
-- did: the register's that takes what was read, or, where no cell is read, the counter's.
abbrev pub tells_step : JobData → ℕ → ℕ → Bool
tells_step job t place = if is_counter job place
    then not (is_some (cell_next job (own_at job t (owner job place))))
    else is_some (cell_next job (own_at job t (owner job place))) && is_written job t place

-- a place of its own is no longer what its words tell
abbrev pub is_changed : JobData → ℕ → ℕ → Bool
is_changed job t place = not (slice_index (state_after job (suc t)) place
    == slice_index (state_after job (settled_at job t (owner job place))) place)

abbrev pub lands_own : JobData → ℕ → ℕ → Bool
lands_own job t place =
    settles job t (owner job place) && (tells_step job t place || is_changed job t place)

-- step t + 1 has a word of the place
abbrev pub lands : Form → JobData → ℕ → ℕ → Bool
lands form job t place = by_form form (is_written job t place)
    (if nat_lt place job.cells then is_written job t place else lands_own job t place)

-- processor i gives the place this value in step t + 1, and it gets a word
pub data Lands (form : Form) (job : JobData) (t place i value : ℕ) : Type 0 where
  asked : IsShared form job place → Asks job t place i value → Lands form job t place i value
  own : (IsShared form job place → ⊥) → lands_own job t place ≡ true → i ≡ owner job place →
      value ≡ slice_index (state_after job (suc t)) place → Lands form job t place i value

-- step t + 1 has one of the place
pub record IsLanded (form : Form) (job : JobData) (t place : ℕ) : Type 0 where
  pub writer : ℕ
  pub value : ℕ
  pub lands : Lands form job t place writer value

-- the last step up to t that has one, or 0
unfoldable pub last_landing : Form → JobData → ℕ → ℕ → ℕ
last_landing form job zero place = 0
last_landing form job (suc t) place =
    if lands form job t place then suc t else last_landing form job t place

-- the last step before step t that has one, or 0
abbrev pub landing_before : Form → JobData → ℕ → ℕ → ℕ
landing_before form job zero place = 0
landing_before form job (suc t) place = last_landing form job t place

-- ---- the words of a place

-- the word of a place that was written in step t
abbrev pub word_of_step : JobData → ℕ → ℕ → ℕ
word_of_step job t place = stamped_word t (slice_index (state_after job t) place)

-- the settled word of a place after t steps, and the one beside it, of the landing before the last
abbrev pub settled : Form → JobData → ℕ → ℕ → ℕ
settled form job t place = word_of_step job (last_landing form job t place) place

abbrev pub settled_before : Form → JobData → ℕ → ℕ → ℕ
settled_before form job t place =
    word_of_step job (landing_before form job (last_landing form job t place) place) place

-- ---- when

-- the phase in which the writes of the step after t steps are carried out: in the wide form a
-- processor's own in the first one, a cell's in the last
abbrev pub compact_phase_written : Rule → ℕ → ℕ
compact_phase_written Common t = 3 * t + 2
compact_phase_written Priority t = 3 * t + 3
compact_phase_written Crew t = 3 * t + 2

abbrev pub phase_written : Form → JobData → ℕ → ℕ → ℕ
phase_written form job place t =
    by_form form (compact_phase_written job.rule t)
    (if nat_lt place job.cells then 3 * t + 3 else 3 * t + 1)

-- and that in which the claims on the cells that it writes are made
abbrev pub phase_claimed : Form → ℕ → ℕ
phase_claimed form t = by_form form (3 * t + 2) (3 * t + 1)
