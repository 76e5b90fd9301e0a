-- What an operation on one word does to the words.
use Rattle.std.proofs.Common.{◌≡◌, ◌≢◌, ◌⊎◌, ℕ, ◌<◌, ◌≤◌, List, length, slice_index, refl, sym, ap}
use Rattle.std.proofs.Common.{subst, ◌∙◌, inl, inr, le_refl, length-set, get_or-set_same, arith}
use Rattle.std.specs.Prelude.{slice_set}
use Rattle.std.proofs.Math.Nat.{max-eq_left}
use Rattle.std.proofs.lemmas.List.{get_or-set_other, set-get_or}
use Rattle.std.proofs.lemmas.Bool.{cases_eq, cases_lt, eq-eqb, ne_eqb}
use Rattle.pram_job.specs.Job.{JobData}
use Rattle.pram_words.specs.declared.words.Word.{Word}
use Rattle.pram_words.specs.declared.words.Word.TheVariants.{Conflict, Node, Asked}
use Rattle.pram_words.specs.declared.words.Word.TheVariants.{Position, Stored, Claim, Spare}
use Rattle.pram_words.specs.Words.{LayoutData, IsLayout, IsWord, IsAdmitted}
use Rattle.pram_words.specs.Words.{IsInRange, number_of, length_of}
use Rattle.pram_words.proofs.Numbering.{numbering}
use Rattle.walkx.specs.declared.operation.Op.TheVariants.{Max, Store, Swap}
use Rattle.walkx.specs.Operations.{words_after}
use Rattle.lawful_walk.specs.Writes.{Does}
use Rattle.lawful_walk.specs.Board.{held, root, Up, Grows, Stands, Lawful}
use Rattle.lawful_walk.specs.Moments.{Keeps}
use Rattle.lawful_walk.proofs.Moments.{same}

-- the later words differ in this one at most, which holds v
pub record Only (y : LayoutData) (a : Word) (v : ℕ) (words later : List ℕ) : Type 0 where
  pub len : length later ≡ length words
  pub at : held y later a ≡ v
  pub rest : (b : Word) → IsWord y b → b ≢ a → held y later b ≡ held y words b

-- one word is set
pub only_set : (y : LayoutData) (a : Word) (v : ℕ) (words : List ℕ) → IsLayout y →
    length words ≡ length_of y → IsWord y a → Only y a v words (slice_set words (number_of y a) v)
only_set y a v words limits len is = record {
  len = length-set words (number_of y a) v;
  at = get_or-set_same words (number_of y a) v 0
      (let n = (numbering y limits).below a is in omega arith);
  rest = λ b is_b other. get_or-set_other words
      (number_of y a) (number_of y b) v 0 (λ e. other ((numbering y limits).apart b a is_b is e));
}

-- each word is that one or another one
pub same_or_other : (y : LayoutData) (a b : Word) → IsLayout y → IsWord y a →
    IsWord y b → (b ≡ a) ⊎ (b ≢ a)
same_or_other y a b limits is is_b = elim (cases_eq (number_of y b) (number_of y a)) [
  | inl e ↦ inl ((numbering y limits).apart b a is_b is e)
  | inr n ↦ inr (λ e. n (ap (number_of y) e))
]

pub only_admitted : (job : JobData) (y : LayoutData) (a : Word) (v : ℕ) (words later : List ℕ) →
    IsLayout y → IsAdmitted y job words → IsWord y a →
    IsInRange y job a v → Only y a v words later → IsAdmitted y job later
only_admitted job y a v words later limits admitted is range only = record {
  len = only.len ∙ admitted.len;
  in_range = λ b is_b. elim (same_or_other y a b limits is is_b) [
    | inl e ↦ subst (λ (c : Word). IsInRange y job c (held y later c))
        (sym e) (subst (IsInRange y job a) (sym only.at) range)
    | inr n ↦ subst (IsInRange y job b) (sym (only.rest b is_b n)) (admitted.in_range b is_b)
  ];
}

-- a word as it was has not fallen
pub up_same : (y : LayoutData) (words : List ℕ) (b : Word) (n : ℕ) → Up y words b n n
up_same y words Conflict n = λ some. refl
up_same y words (Node m) n = le_refl _
up_same y words (Asked i j) n = le_refl _
up_same y words (Position w) n = tt
up_same y words (Stored p k) n = inl refl
up_same y words (Claim c) n = le_refl _
up_same y words (Spare k) n = refl

pub only_grows : (y : LayoutData) (a : Word) (v : ℕ) (words later : List ℕ) →
    IsLayout y → IsWord y a → Up y words a (held y words a) v →
    Only y a v words later → Grows y words later
only_grows y a v words later limits is up only =
    λ b is_b. elim (same_or_other y a b limits is is_b) [
      | inl e ↦ subst (λ (c : Word). Up y words c (held y words c) (held y later c))
          (sym e) (subst (Up y words a (held y words a)) (sym only.at) up)
      | inr n ↦ subst (Up y words b (held y words b))
          (sym (only.rest b is_b n)) (up_same y words b (held y words b))
    ]

-- ---- the operations that change a word

pub max_less : (words : List ℕ) (k v : ℕ) → v ≤ slice_index words k →
    words_after words (Max k v) ≡ words
max_less words k v h = ap (λ (n : ℕ). slice_set words k n) (max-eq_left h) ∙ set-get_or words k 0

pub max_more : (words : List ℕ) (k v : ℕ) → slice_index words k < v →
    words_after words (Max k v) ≡ slice_set words k v
max_more words k v h = ap (λ (n : ℕ). slice_set words k n) (omega arith)

pub swap_same : (words : List ℕ) (k old new : ℕ) → slice_index words k ≡ old →
    words_after words (Swap k old new) ≡ slice_set words k new
swap_same words k old new e = rw (eq-eqb (slice_index words k) old e) refl

pub swap_other : (words : List ℕ) (k old new : ℕ) → slice_index words k ≢ old →
    words_after words (Swap k old new) ≡ words
swap_other words k old new n = rw (ne_eqb (slice_index words k) old n) (set-get_or words k 0)

-- ---- the lemmas on writes come down to words that differ in one word

keeps_only : (job : JobData) (y : LayoutData) (a : Word) (v : ℕ) (words : List ℕ) →
    Stands job y words → IsWord y a → IsInRange y job a v → Up y words a (held y words a) v →
    ((later : List ℕ) → Only y a v words later → Lawful job y later) →
    Stands job y (slice_set words (number_of y a) v)
    × Grows y words (slice_set words (number_of y a) v)
keeps_only job y a v words stands is range up lawful =
    let only = only_set y a v words stands.sizes stands.admitted.len is in (
      record {
        limits = stands.limits;
        sizes = stands.sizes;
        layout = stands.layout;
        admitted = only_admitted job y a v words
            (slice_set words (number_of y a) v) stands.sizes stands.admitted is range only;
        lawful = lawful (slice_set words (number_of y a) v) only;
      },
      only_grows y a v words (slice_set words (number_of y a) v) stands.sizes is up only,
    )

-- words that stay as they are
keeps_still : (job : JobData) (y : LayoutData) (words later : List ℕ) → Stands job y words →
    later ≡ words → Stands job y later × Grows y words later
keeps_still job y words later stands e =
    subst (λ (l : List ℕ). Stands job y l × Grows y words l) (sym e) (stands, same y words)

pub does_max : (job : JobData) (y : LayoutData) (q : ℕ) (a : Word) (v : ℕ) (words : List ℕ) →
    Stands job y words → IsWord y a → IsInRange y job a v →
    (q ≤ root y words → v ≤ held y words a) →
    (held y words a < v → Up y words a (held y words a) v
    × ((later : List ℕ) → Only y a v words later → Lawful job y later)) →
    Does job y q (Max (number_of y a) v) words
does_max job y q a v words stands is range stale raised =
    let both : Stands job y (words_after words (Max (number_of y a) v)) × Grows y words
    (words_after words (Max (number_of y a) v)) = elim (cases_lt (held y words a) v) [
      | inl c ↦ (let h = raised c in subst (λ (l : List ℕ). Stands job y l × Grows y words l)
          (sym (max_more words (number_of y a) v c))
          (keeps_only job y a v words stands is range h.0 h.1))
      | inr c ↦ keeps_still job y words
          (words_after words (Max (number_of y a) v)) stands (max_less words (number_of y a) v c)
    ] in
    record {
      keeps = record { stands = both.0; grows = both.1 };
      still = λ h. max_less words (number_of y a) v (stale h);
    }

pub does_swap : (job : JobData) (y : LayoutData) (q : ℕ) (a : Word) (old v : ℕ) (words : List ℕ) →
    Stands job y words → IsWord y a → IsInRange y job a v →
    (q ≤ root y words → held y words a ≢ old) →
    (held y words a ≡ old → Up y words a (held y words a) v
    × ((later : List ℕ) → Only y a v words later → Lawful job y later)) →
    Does job y q (Swap (number_of y a) old v) words
does_swap job y q a old v words stands is range stale swapped =
    let both : Stands job y (words_after words (Swap (number_of y a) old v)) × Grows y words
    (words_after words (Swap (number_of y a) old v)) = elim (cases_eq (held y words a) old) [
      | inl e ↦ (let h = swapped e in subst (λ (l : List ℕ). Stands job y l × Grows y words l)
          (sym (swap_same words (number_of y a) old v e))
          (keeps_only job y a v words stands is range h.0 h.1))
      | inr n ↦ keeps_still job y words (words_after words (Swap (number_of y a) old v)) stands
          (swap_other words (number_of y a) old v n)
    ] in
    record {
      keeps = record { stands = both.0; grows = both.1 };
      still = λ h. swap_other words (number_of y a) old v (stale h);
    }

-- a position is stored
pub keeps_store : (job : JobData) (y : LayoutData) (w v : ℕ) (words : List ℕ) → Stands job y words →
    w < y.workers → IsInRange y job (Position w) v →
    ((later : List ℕ) → Only y (Position w) v words later → Lawful job y later) →
    Keeps job y (Store (number_of y (Position w)) v) words
keeps_store job y w v words stands is range lawful =
    let both = keeps_only job y (Position w) v words stands is range tt lawful in
    record { stands = both.0; grows = both.1 }
