-- The words that a board starts with, written over zeros.
use Rattle.std.proofs.Common.{◌≡◌, ◌≢◌, ℕ, List, [], ◌+◌, ◌<◌, ◌≤◌, min, length, get_or, set, take}
use Rattle.std.proofs.Common.{zero, suc, inl, inr, refl, sym, ap, ◌∙◌, arith, lit<}
use Rattle.std.specs.Prelude.{replicate}
use Rattle.std.proofs.lemmas.Bool.{cases_lt, cases_eq, lt-ltb, le-ltb}
use Rattle.std.proofs.lemmas.List.{ext_get_or, get_or_past, get_or-replicate, get_or-take}
use Rattle.std.proofs.lemmas.List.{get_or-set_same, get_or-set_other, length-set, length-replicate}
use Rattle.std.proofs.lemmas.List.{length-take, take_all}
use Rattle.std.proofs.lemmas.List.FromFn.{get_or-map-range_with_len}
use Rattle.pram_job.specs.Job.{JobData}
use Rattle.pram_words.specs.declared.words.Word.{Word}
use Rattle.pram_words.specs.declared.words.Word.TheVariants.{Position, Stored}
use Rattle.pram_words.specs.Words.{LayoutData, IsLayout, IsWord, places_of}
use Rattle.pram_words.specs.Words.{number_of, length_of, word_at}
use Rattle.pram_words.specs.Ways.{first_leaf_in}
use Rattle.pram_words.specs.Start.{start_of, start_words}
use Rattle.pram_words.specs.Inner.Started.{HasStarted, word_started}
use Rattle.pram_words.proofs.Numbering.{numbering}
use Rattle.pram_words.proofs.Starts.{length-start_words}

-- where one word is written, each word has what it is to have
set_at : (y : LayoutData) (words : List ℕ) (a b : Word) (v expected : ℕ) → IsLayout y →
    IsWord y a → IsWord y b → length words ≡ length_of y → (b ≡ a → v ≡ expected) →
    (b ≢ a → get_or words (number_of y b) 0 ≡ expected) →
    get_or (set words (number_of y a) v) (number_of y b) 0 ≡ expected
set_at y words a b v expected limits is_a is_b len same other =
    let below = (numbering y limits).below a is_a in
    elim (cases_eq (number_of y b) (number_of y a)) [
      | inl e ↦ ap (λ k. get_or (set words (number_of y a) v) k 0) e
          ∙ get_or-set_same words (number_of y a) v 0 (omega arith)
          ∙ same ((numbering y limits).apart b a is_b is_a e)
      | inr ne ↦ get_or-set_other words (number_of y a) (number_of y b) v 0 ne
          ∙ other (λ e. ne (ap (number_of y) e))
    ]

-- zeros are a start without workers and values
started_none : (y : LayoutData) (a : Word) → 0 ≡ word_started y 0 [] a
started_none y (Position w) = rw (le-ltb w 0 (omega arith)) refl
started_none y (Stored p k) = sym (get_or_past [] p 0 (omega arith))
started_none y a = refl

pub zeros_started : (y : LayoutData) (n : ℕ) (words : List ℕ) → IsLayout y → n ≡ length_of y →
    words ≡ replicate n 0 → HasStarted y 0 [] words
zeros_started y n words limits len zeros = record {
  len = ap length zeros ∙ length-replicate n 0 ∙ len;
  each = λ a is. let below = (numbering y limits).below a is in
      ap (λ (xs : List ℕ). get_or xs (number_of y a) 0) zeros
      ∙ get_or-replicate n (number_of y a) 0 0 (omega arith) ∙ started_none y a;
}

-- one more worker
other_worker : (y : LayoutData) (w : ℕ) (values : List ℕ) (a : Word) → a ≢ Position w →
    word_started y w values a ≡ word_started y (w + 1) values a
other_worker y w values (Position x) ne = elim (cases_lt x w) [
  | inl c ↦ rw (lt-ltb x w c, lt-ltb x (w + 1) (omega arith)) refl
  | inr c ↦ elim (cases_eq x w) [
    | inl e ↦ absurd (ne (ap Position e))
    | inr d ↦ rw (le-ltb x w c, le-ltb x (w + 1) (omega arith)) refl
  ]
]
other_worker y w values a ne = refl

this_worker : (y : LayoutData) (w : ℕ) (values : List ℕ) →
    first_leaf_in y w ≡ word_started y (w + 1) values (Position w)
this_worker y w values = rw (lt-ltb w (w + 1) (omega arith)) refl

pub worker_started : (y : LayoutData) (w at v : ℕ) (values words : List ℕ) → IsLayout y →
    w < y.workers → at ≡ number_of y (Position w) → v ≡ first_leaf_in y w →
    HasStarted y w values words → HasStarted y (w + 1) values (set words at v)
worker_started y w at v values words limits below is leaf so = record {
  len = length-set words at v ∙ so.len;
  each = λ b is_b. rw is (set_at y words (Position w) b v _ limits below is_b so.len
      (λ e. leaf ∙ this_worker y w values ∙ ap (word_started y (w + 1) values) (sym e))
      (λ ne. so.each b is_b ∙ other_worker y w values b ne));
}

-- one more place
other_value : (values : List ℕ) (p q : ℕ) → q ≢ p →
    get_or (take p values) q 0 ≡ get_or (take (p + 1) values) q 0
other_value values p q ne = elim (cases_lt q p) [
  | inl c ↦ get_or-take p values q 0 c ∙ sym (get_or-take (p + 1) values q 0 (omega arith))
  | inr c ↦ past p values q c ∙ sym (past (p + 1) values q (omega arith))
]
  where
    past : (n : ℕ) (values : List ℕ) (q : ℕ) → n ≤ q → get_or (take n values) q 0 ≡ 0
    past n values q c = get_or_past (take n values) q 0 (omega (arith, length-take n values))

other_place : (y : LayoutData) (workers p : ℕ) (values : List ℕ) (a : Word) → IsWord y a →
    a ≢ Stored p 0 → a ≢ Stored p 1 →
    word_started y workers (take p values) a ≡ word_started y workers (take (p + 1) values) a
other_place y workers p values (Stored q zero) is first second =
    other_value values p q (λ e. first (ap (λ n. Stored n 0) e))
other_place y workers p values (Stored q (suc zero)) is first second =
    other_value values p q (λ e. second (ap (λ n. Stored n 1) e))
other_place y workers p values (Stored q (suc (suc k))) is first second = absurd (omega arith)
other_place y workers p values a is first second = refl

pub place_started : (y : LayoutData) (workers p first second v : ℕ) (values words : List ℕ) →
    IsLayout y → p < places_of y → first ≡ number_of y (Stored p 0) →
    second ≡ number_of y (Stored p 1) → v ≡ get_or values p 0 →
    HasStarted y workers (take p values) words →
    HasStarted y workers (take (p + 1) values) (set (set words first v) second v)
place_started y workers p first second v values words limits below at next is so =
    let value : v ≡ get_or (take (p + 1) values) p 0 =
    is ∙ sym (get_or-take (p + 1) values p 0 (omega arith)) in
    let more = word_started y workers (take (p + 1) values) in
    record {
      len = length-set (set words first v) second v ∙ length-set words first v ∙ so.len;
      each = λ b is_b. rw (at, next) (set_at y (set words (number_of y (Stored p 0)) v)
          (Stored p 1) b v (more b) limits (below, lit< tt) is_b
          (length-set words (number_of y (Stored p 0)) v ∙ so.len)
          (λ e. value ∙ ap more (sym e))
          (λ other. set_at y words (Stored p 0) b v (more b) limits (below, lit< tt) is_b so.len
          (λ e. value ∙ ap more (sym e))
          (λ ne. so.each b is_b ∙ other_place y workers p values b is_b ne other)));
    }

-- values that have no place are left out
same_value : (values : List ℕ) (n places p : ℕ) → n ≡ min (length values) places → p < places →
    get_or (take n values) p 0 ≡ get_or values p 0
same_value values n places p least place = elim (cases_lt p n) [
  | inl c ↦ get_or-take n values p 0 c
  | inr c ↦ ap (λ (xs : List ℕ). get_or xs p 0) (take_all n values (omega arith))
]

left_out : (y : LayoutData) (workers n : ℕ) (values : List ℕ) (a : Word) → IsWord y a →
    n ≡ min (length values) (places_of y) →
    word_started y workers (take n values) a ≡ word_started y workers values a
left_out y workers n values (Stored p k) is least = same_value values n (places_of y) p least is.0
left_out y workers n values a is least = refl

pub places_started : (y : LayoutData) (workers n : ℕ) (values words : List ℕ) →
    n ≡ min (length values) (places_of y) → HasStarted y workers (take n values) words →
    HasStarted y workers values words
places_started y workers n values words least so = record {
  len = so.len;
  each = λ a is. so.each a is ∙ left_out y workers n values a is least;
}

-- in the end all words have started
started_all : (y : LayoutData) (job : JobData) (a : Word) → IsWord y a →
    word_started y y.workers job.init a ≡ start_of y job a
started_all y job (Position w) is = rw (lt-ltb w y.workers is) refl
started_all y job a is = refl

start_words_at : (y : LayoutData) (job : JobData) (k : ℕ) → k < length_of y →
    get_or (start_words y job) k 0 ≡ start_of y job (word_at y k)
unfolding start_words
start_words_at y job k below = get_or-map-range_with_len
    (λ (j : ℕ). start_of y job (word_at y j)) 0 (length_of y) k k 0 below (omega arith)

pub all_started : (y : LayoutData) (job : JobData) (words : List ℕ) → IsLayout y →
    HasStarted y y.workers job.init words → words ≡ start_words y job
all_started y job words limits so =
    ext_get_or 0 words (start_words y job) (so.len ∙ sym (length-start_words y job))
    (λ k low. let below : k < length_of y = omega (arith, so.len) in
    let found = (numbering y limits).word k below in
    ap (λ n. get_or words n 0) (sym found.1) ∙ so.each (word_at y k) found.0
    ∙ started_all y job (word_at y k) found.0 ∙ sym (start_words_at y job k below))
