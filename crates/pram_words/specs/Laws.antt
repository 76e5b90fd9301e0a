-- Laws of stamps, phases, words and workers' ways.
use Rattle.std.specs.Prelude.{◌≡◌, ℕ, ◌*◌, ◌^◌, ◌<◌, ◌≤◌, IsTrue}
use Rattle.pram_job.specs.Job.{JobData, IsJob}
use Rattle.pram_words.specs.declared.layout.Form.{Form}
use Rattle.pram_words.specs.declared.phases.Kind.{Kind}
use Rattle.pram_words.specs.Stamps.{stamped_word, stamp_of, payload_of}
use Rattle.pram_words.specs.Phases.{phase_of, step_at, kind_at}
use Rattle.pram_words.specs.Phases.{has_phase, next_phase, phase_before}
use Rattle.pram_words.specs.Tree.{depth_of}
use Rattle.pram_words.specs.Words.{LayoutData, IsLayout, IsNumbering, HasRanges}
use Rattle.pram_words.specs.Words.{IsGrain, grain_of, layout_of}
use Rattle.pram_words.specs.Ways.{first_leaf_in, way_of}
use Rattle.pram_words.specs.Start.{StartsAdmitted}

-- a word and its two halves give each other back
abbrev pub StampsUndo : Type 0
StampsUndo =
    ((stamp payload : ℕ) → payload < 2 ^ 32 → (stamp_of (stamped_word stamp payload) ≡ stamp)
    × (payload_of (stamped_word stamp payload) ≡ payload))
    × ((word : ℕ) → stamped_word (stamp_of word) (payload_of word) ≡ word)

-- a phase and its step and kind give each other back
abbrev pub PhasesUndo : Type 0
PhasesUndo =
    ((step : ℕ) (kind : Kind) → 1 ≤ step → (step_at (phase_of step kind) ≡ step)
    × (kind_at (phase_of step kind) ≡ kind))
    × ((phase : ℕ) → 1 ≤ phase → phase_of (step_at phase) (kind_at phase) ≡ phase)

-- the phase that comes is the least one of the form above what the root holds
abbrev pub PhasesFollow : Type 0
PhasesFollow =
    (form : Form) (root : ℕ) →
    IsTrue (has_phase form (next_phase form root)) × (root < next_phase form root)
    × ((phase : ℕ) → IsTrue (has_phase form phase) → root < phase → next_phase form root ≤ phase)
    × (IsTrue (has_phase form root) → phase_before form (next_phase form root) ≡ root)

-- no two things share a word, and the words have the numbers from 0 up to the length
abbrev pub WordsKeepApart : Type 0
WordsKeepApart = (layout : LayoutData) → IsLayout layout → IsNumbering layout

-- the values that a word may have are those that the board admits at its number
abbrev pub WordsHaveRanges : Type 0
WordsHaveRanges = (layout : LayoutData) (job : JobData) → IsLayout layout → job.steps < 2 ^ 32 →
    HasRanges layout job

-- the words of a board start in their ranges, each as its kind says
abbrev pub WordsStartAdmitted : Type 0
WordsStartAdmitted = (job : JobData) (form : Form) (workers : ℕ) → IsJob job →
    IsGrain (grain_of form) → 1 ≤ workers → workers ≤ 64 →
    StartsAdmitted (layout_of job form workers) job

-- a worker begins at the leaf where its turns lead from the root
abbrev pub WorkersBeginAtLeaves : Type 0
WorkersBeginAtLeaves = (layout : LayoutData) (worker : ℕ) → IsLayout layout →
    (layout.leaves ≤ first_leaf_in layout worker)
    × (first_leaf_in layout worker < 2 * layout.leaves)
    × (first_leaf_in layout worker ≡ way_of layout worker (depth_of layout.leaves))
