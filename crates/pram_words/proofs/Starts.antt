-- The words that a board starts with.
use Rattle.std.proofs.Common.{◌≡◌, ℕ, ◌+◌, ◌-◌, ◌^◌, ◌<◌, ◌≤◌, IsTrue, length, get_or}
use Rattle.std.proofs.Common.{inl, inr, refl, sym, ap, subst, ◌∙◌, arith, lit<}
use Rattle.std.proofs.lemmas.Bool.{cases_lt, lt-ltb, le-ltb}
use Rattle.std.proofs.lemmas.List.{get_or_past}
use Rattle.std.proofs.lemmas.List.Elements.{All-get_or}
use Rattle.std.proofs.lemmas.List.FromFn.{length-map-range_with_len, get_or-map-range_with_len}
use Rattle.pram_job.specs.Job.{JobData, IsJob}
use Rattle.pram_words.specs.declared.layout.Form.{Form}
use Rattle.pram_words.specs.declared.layout.Form.TheVariants.{Compact, Wide}
use Rattle.pram_words.specs.declared.words.Word.{Word}
use Rattle.pram_words.specs.declared.words.Word.TheVariants.{Conflict, Node, Asked}
use Rattle.pram_words.specs.declared.words.Word.TheVariants.{Position, Stored, Claim, Spare}
use Rattle.pram_words.specs.Phases.{has_phase}
use Rattle.pram_words.specs.Words.{LayoutData, IsLayout, IsWord, IsInRange, IsStamped}
use Rattle.pram_words.specs.Words.{IsGrain, grain_of, layout_of}
use Rattle.pram_words.specs.Words.{counters_of, most_stored, number_of, length_of, word_at}
use Rattle.pram_words.specs.Start.{start_of, start_words, StartsAdmitted}
use Rattle.pram_words.proofs.Blocks.{leaves_limits}
use Rattle.pram_words.proofs.Numbering.{numbering, word_at-number_of}
use Rattle.pram_words.proofs.Ways.{first_leaf}

-- the layout of a job is within the limits
pub layout_of_limits : (job : JobData) (form : Form) (workers : ℕ) → IsJob job →
    IsGrain (grain_of form) → 1 ≤ workers → workers ≤ 64 → IsLayout (layout_of job form workers)
layout_of_limits job form workers is block some most =
    let found = leaves_limits (grain_of form) job.procs block is.procs.0 is.procs.1 in
    record {
      leaves = found.leaves;
      block = block;
      least = refl;
      room = found.room;
      cells = is.cells;
      procs = is.procs;
      workers = (some, most);
    }

-- a value below 2^32 is a stamped word with stamp 0
plain : (steps most v : ℕ) → v < 2 ^ 32 → v ≤ most → IsStamped steps most v
plain steps most v fits up = (omega arith, omega arith)

init_below : (job : JobData) (p : ℕ) → IsJob job → get_or job.init p 0 < 2 ^ 32
init_below job p is = elim (cases_lt p (length job.init)) [
  | inl c ↦ All-get_or (λ v. v < 2 ^ 32) job.init p 0 c is.init_fits
  | inr c ↦ rw (get_or_past job.init p 0 c) (lit< tt)
]

stored_starts : (y : LayoutData) (job : JobData) (p : ℕ) → IsJob job → y.cells ≡ job.cells →
    IsStamped job.steps (most_stored y job p) (get_or job.init p 0)
stored_starts y job p is same = elim (cases_lt p (counters_of y)) [
  | inl c ↦ (let below = init_below job p is in
      rw (lt-ltb p (counters_of y) c) (plain job.steps (2 ^ 32 - 1) _ below (omega arith)))
  | inr c ↦ rw (le-ltb p (counters_of y) c, get_or_past job.init p 0 (omega (arith, is.init_len)))
      (plain job.steps (length job.code + 1) 0 (lit< tt) (omega arith))
]

none_first : (form : Form) → IsTrue (has_phase form 0)
none_first Compact = refl
none_first (Wide grain) = refl

-- each start value is in its word's range
starts_in_range : (job : JobData) (form : Form) (workers : ℕ) (a : Word) →
    IsJob job → IsLayout (layout_of job form workers) →
    IsInRange (layout_of job form workers) job a (start_of (layout_of job form workers) job a)
starts_in_range job form workers Conflict is limits = omega arith
starts_in_range job form workers (Node n) is limits = (omega arith, none_first form)
starts_in_range job form workers (Asked i j) is limits = plain job.steps _ 0 (lit< tt) (omega arith)
starts_in_range job form workers (Position w) is limits =
    let leaf = first_leaf (layout_of job form workers) w limits in
    (omega (arith, limits.leaves), omega arith)
starts_in_range job form workers (Stored p k) is limits =
    stored_starts (layout_of job form workers) job p is refl
starts_in_range job form workers (Claim c) is limits = plain job.steps _ 0 (lit< tt) (omega arith)
starts_in_range job form workers (Spare k) is limits = refl

-- each word has its start value
start_words_value : (y : LayoutData) (job : JobData) → IsLayout y → (a : Word) → IsWord y a →
    get_or (start_words y job) (number_of y a) 0 ≡ start_of y job a
unfolding start_words
start_words_value y job limits a is =
    get_or-map-range_with_len (λ k. start_of y job (word_at y k)) 0
    (length_of y) (number_of y a) (number_of y a) 0 ((numbering y limits).below a is) (omega arith)
    ∙ ap (start_of y job) (word_at-number_of y limits a is)

pub length-start_words : (y : LayoutData) (job : JobData) → length (start_words y job) ≡ length_of y
unfolding start_words
length-start_words y job =
    length-map-range_with_len (λ k. start_of y job (word_at y k)) 0 (length_of y)

pub starts_admitted : (job : JobData) (form : Form) (workers : ℕ) → IsJob job →
    IsGrain (grain_of form) → 1 ≤ workers → workers ≤ 64 →
    StartsAdmitted (layout_of job form workers) job
starts_admitted job form workers is block some most =
    let limits = layout_of_limits job form workers is block some most in
    let value = start_words_value (layout_of job form workers) job limits in
    record {
      values = value;
      admitted = record {
        len = length-start_words (layout_of job form workers) job;
        in_range = λ a is_a. subst (IsInRange (layout_of job form workers) job a)
            (sym (value a is_a)) (starts_in_range job form workers a is limits);
      };
    }
