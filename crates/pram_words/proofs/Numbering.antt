-- Each word has a number of its own.
use Rattle.std.proofs.Common.{◌≡◌, ℕ, cond, ◌+◌, ◌-◌, ◌*◌, ◌/◌, ◌%◌, ◌<◌, ◌≤◌, ◌^◌, ◌↔◌}
use Rattle.std.proofs.Common.{◌≢◌, ◌⊎◌, inl, inr, refl, sym, ap, subst, ◌∙◌, arith, lit<}
use Rattle.std.proofs.Common.{zero, suc}
use Rattle.std.proofs.lemmas.Bool.{cases_lt, cases_eq, cases_Bool, cond-true, cond-false}
use Rattle.std.proofs.lemmas.Bool.{lt-ltb, le-ltb, eq-eqb, ne_eqb}
use Rattle.std.proofs.lemmas.Nat.{pow_pos}
use Rattle.std.proofs.lemmas.Bool.Decides.{nat_tests}
use Rattle.pram_job.specs.Job.{JobData}
use Rattle.pram_job.specs.Places.{register_at}
use Rattle.pram_words.specs.declared.layout.Form.{Form}
use Rattle.pram_words.specs.declared.layout.Form.TheVariants.{Compact, Wide}
use Rattle.pram_words.specs.declared.words.Word.{Word}
use Rattle.pram_words.specs.declared.words.Word.TheVariants.{Conflict, Node, Asked}
use Rattle.pram_words.specs.declared.words.Word.TheVariants.{Position, Stored, Claim, Spare}
use Rattle.pram_words.specs.Words.{LayoutData, IsLayout, IsNeeded, IsWord, IsInRange}
use Rattle.pram_words.specs.Words.{IsNumbering, HasRanges, Admits, counters_of, requests_at}
use Rattle.pram_words.specs.Words.{positions_at, places_at, claims_at, compact_number}
use Rattle.pram_words.specs.Words.{compact_word, grain, block_at, block_words, blocks_at, cells_at}
use Rattle.pram_words.specs.Words.{AreOwn, row_at, row_place, wide_claims_at, wide_number}
use Rattle.pram_words.specs.Forms.{by_form}
use Rattle.pram_words.specs.Words.{block_word, grain_of, places_of, row_word, wide_place}
use Rattle.pram_words.specs.Words.{wide_word, number_of, length_of, word_at}
use Rattle.pram_words.proofs.Rows.{block_back, block_least, block_splits, next_row, place_below}
use Rattle.pram_words.proofs.Rows.{place_row, row_back, row_number, row_place_below}
use Rattle.pram_words.proofs.Rows.{place_register, row_counter, row_register, slot_below}

pub cases_form : (f : Form) → (f ≡ Compact) ⊎ ((grain : ℕ) × (f ≡ Wide grain))
cases_form Compact = inl refl
cases_form (Wide grain) = inr (grain, refl)

pub form_compact : {A : Type 0} (f : Form) (compact wide : A) → f ≡ Compact →
    by_form f compact wide ≡ compact
form_compact f compact wide e = rw e refl

pub form_wide : {A : Type 0} (f : Form) (grain : ℕ) (compact wide : A) →
    f ≡ Wide grain → by_form f compact wide ≡ wide
form_wide f grain compact wide e = rw e refl

-- a block has at least one processor
pub grain_some : (y : LayoutData) → IsLayout y → 1 ≤ grain y
grain_some y limits = rw limits.block.0.1 (pow_pos limits.block.0.0)

-- what a word has for its number k, under a numbering
record Found (y : LayoutData) (number_in : Word → ℕ) (k : ℕ) (a : Word) : Type 0 where
  is : IsNeeded y a
  number : number_in a ≡ k

found_at : (y : LayoutData) (f : Word → ℕ) (k : ℕ) (a b : Word) →
    b ≡ a → Found y f k a → Found y f k b
found_at y f k a b e found = rw e found

-- ---- the compact form

-- the word of a word's number is that word
compact_back : (y : LayoutData) → 1 ≤ y.leaves → (a : Word) → IsNeeded y a →
    compact_word y (compact_number y a) ≡ a
compact_back y some Conflict is = refl
compact_back y some (Node n) is = grind (arith, nat_tests)
compact_back y some (Asked i j) is = grind (arith, nat_tests)
compact_back y some (Position w) is = grind (arith, nat_tests)
compact_back y some (Stored p k) is = grind (arith, nat_tests)
compact_back y some (Claim c) is = grind (arith, nat_tests)
compact_back y some (Spare k) is = absurd is

compact_below : (y : LayoutData) → 1 ≤ y.leaves → (a : Word) → IsNeeded y a →
    compact_number y a < claims_at y + cond y.claims y.cells 0
compact_below y some Conflict is = omega arith
compact_below y some (Node n) is = omega arith
compact_below y some (Asked i j) is = omega arith
compact_below y some (Position w) is = omega arith
compact_below y some (Stored p k) is = omega arith
compact_below y some (Claim c) is = let e = cond-true y.claims y.cells 0 is.0 in omega arith
compact_below y some (Spare k) is = absurd is

-- each number has its word
claim_found : (y : LayoutData) (f : Word → ℕ) (at k : ℕ) → ((c : ℕ) → f (Claim c) ≡ at + c) →
    at ≤ k → k < at + cond y.claims y.cells 0 → Found y f k (Claim (k - at))
claim_found y f at k number a b = elim (cases_Bool y.claims) [
  | inl e ↦ (let g = cond-true y.claims y.cells 0 e in
      record { is = (e, omega arith); number = omega (arith, number (k - at)) })
  | inr e ↦ absurd (let g = cond-false y.claims y.cells 0 e in omega arith)
]

compact_found : (y : LayoutData) (k : ℕ) → y.form ≡ Compact → 1 ≤ y.leaves →
    k < claims_at y + cond y.claims y.cells 0 → Found y (compact_number y) k (compact_word y k)
compact_found y zero compact some b = record { is = tt; number = refl }
compact_found y (suc n) compact some b = let k = suc n in elim (cases_lt k (requests_at y)) [
  | inl c ↦ found_at y _ k (Node k) _
      (grind (arith, nat_tests)) (record { is = (omega arith, c); number = refl })
  | inr c ↦ elim (cases_lt k (positions_at y)) [
    | inl d ↦ found_at y _ k (Asked ((k - requests_at y) / 3) ((k - requests_at y) % 3)) _
        (grind (arith, nat_tests))
        (record { is = (compact, omega arith, omega arith); number = omega arith })
    | inr d ↦ elim (cases_lt k (places_at y)) [
      | inl e ↦ found_at y _ k (Position (k - positions_at y)) _
          (grind (arith, nat_tests)) (record { is = omega arith; number = omega arith })
      | inr e ↦ elim (cases_lt k (claims_at y)) [
        | inl f ↦ found_at y _ k (Stored ((k - places_at y) / 2) ((k - places_at y) % 2)) _
            (grind (arith, nat_tests))
            (record { is = (omega arith, omega arith); number = omega arith })
        | inr f ↦ found_at y _ k (Claim (k - claims_at y)) _ (grind (arith, nat_tests))
            (claim_found y (compact_number y) (claims_at y) k (λ c. refl) f b)
      ]
    ]
  ]
]

-- ---- the wide form

leaf_back : (y : LayoutData) (n : ℕ) → y.leaves ≤ n → n < 2 * y.leaves →
    wide_word y (block_at y (n - y.leaves) + 10 * grain y) ≡ Node n
leaf_back y n leaf below =
    let same : y.leaves + (n - y.leaves) ≡ n = omega arith in
    block_back y (n - y.leaves) (10 * grain y) _ (omega arith) (block_least (grain y)) refl
    ∙ rw (eq-eqb (10 * grain y) (10 * grain y) refl) (ap Node same)

not_compact : (y : LayoutData) (g : ℕ) {A : Type 0} → y.form ≡ Wide g → y.form ≡ Compact → A
not_compact y g e compact = absurd (wide_is (sym e ∙ compact))
  where
    is_wide : Form → Type 0
    is_wide Compact = ⊥
    is_wide (Wide grain) = Unit {0}

    wide_is : Wide g ≡ Compact → ⊥
    wide_is e = subst is_wide e tt

place_back : (y : LayoutData) (p k : ℕ) → IsLayout y → p < places_of y → k < 2 →
    wide_word y (wide_place y p + k) ≡ Stored p k
place_back y p k limits place two = elim (cases_lt p y.cells) [
  | inl c ↦ grind (arith, nat_tests)
  | inr c ↦ elim (cases_lt p (counters_of y)) [
    | inl d ↦ (let i = (p - y.cells) / 4 in
        let r = (p - y.cells) % 4 in
        let here : wide_place y p ≡ row_at y i (1 + r) =
        rw (le-ltb p y.cells c, lt-ltb p (counters_of y) d) refl in
        let same : register_at y.cells i r ≡ p = omega arith in
        row_back y i (1 + r) k _ limits (grain_some y limits) (omega arith) (omega arith) two
        (ap (λ n. n + k) here)
        ∙ ap (λ n. Stored n k) (place_register y i (1 + r) r refl ∙ same))
    | inr d ↦ (let i = p - counters_of y in
        let here : wide_place y p ≡ row_at y i 0 =
        rw (le-ltb p y.cells c, le-ltb p (counters_of y) d) refl in
        let same : counters_of y + i ≡ p = omega arith in
        row_back y i 0 k _ limits (grain_some y limits) (omega arith) (lit< tt) two
        (ap (λ n. n + k) here)
        ∙ ap (λ n. Stored n k) same)
  ]
]

wide_back : (y : LayoutData) (g : ℕ) → IsLayout y → y.form ≡ Wide g → (a : Word) → IsNeeded y a →
    wide_word y (wide_number y a) ≡ a
wide_back y g limits e Conflict is = let some = limits.leaves.0 in grind (arith, nat_tests)
wide_back y g limits e (Node n) is = elim (cases_lt n y.leaves) [
  | inl c ↦ rw (lt-ltb n y.leaves c) (grind (arith, nat_tests))
  | inr c ↦ rw (le-ltb n y.leaves c) (leaf_back y n c is.1)
]
wide_back y g limits e (Asked i j) is = not_compact y g e is.0
wide_back y g limits e (Position w) is = let some = limits.leaves.0 in grind (arith, nat_tests)
wide_back y g limits e (Stored p k) is = place_back y p k limits is.0 is.1
wide_back y g limits e (Claim c) is = grind (arith, nat_tests)
wide_back y g limits e (Spare k) is = absurd is

wide_below : (y : LayoutData) (g : ℕ) → IsLayout y → y.form ≡ Wide g → (a : Word) → IsNeeded y a →
    wide_number y a < wide_claims_at y + cond y.claims y.cells 0
wide_below y g limits e Conflict is = let some = limits.leaves.0 in omega arith
wide_below y g limits e (Node n) is = elim (cases_lt n y.leaves) [
  | inl c ↦ rw (lt-ltb n y.leaves c) (omega arith)
  | inr c ↦ rw (le-ltb n y.leaves c) (omega (
    arith,
    slot_below y (n - y.leaves) (10 * grain y) (omega arith) (block_least (grain y)),
  ))
]
wide_below y g limits e (Asked i j) is = not_compact y g e is.0
wide_below y g limits e (Position w) is = omega arith
wide_below y g limits e (Stored p k) is =
    omega (arith, place_below y p limits (grain_some y limits) is.0)
wide_below y g limits e (Claim c) is =
    let has = cond-true y.claims y.cells 0 is.0 in omega (arith, has)
wide_below y g limits e (Spare k) is = absurd is

-- each number has its word, or is spare
abbrev IsFoundWide : LayoutData → ℕ → Type 0
IsFoundWide y k = Found y (wide_number y) k (wide_word y k) ⊎ (wide_word y k ≡ Spare k)

line_found : (y : LayoutData) (k : ℕ) → 1 ≤ y.leaves → k < blocks_at y → IsFoundWide y k
line_found y k some below = elim (cases_eq (k % 8) 0) [
  | inl e ↦ inl (elim (cases_eq (k / 8) 0) [
    | inl z ↦ found_at y _ k Conflict _
        (grind (arith, nat_tests)) (record { is = tt; number = omega arith })
    | inr z ↦ elim (cases_lt (k / 8) y.leaves) [
      | inl c ↦ found_at y _ k (Node (k / 8)) _ (grind (arith, nat_tests))
          (record { is = (omega arith, omega arith); number = grind (arith, nat_tests) })
      | inr c ↦ found_at y _ k (Position (k / 8 - y.leaves)) _
          (grind (arith, nat_tests)) (record { is = omega arith; number = omega arith })
    ]
  ])
  | inr e ↦ inr (grind (arith, nat_tests))
]

-- the word at a slot of a block
row_found : (y : LayoutData) (k b s : ℕ) → IsLayout y → s ≢ 10 * grain y →
    wide_word y k ≡ block_word y k b s → k ≡ block_at y b + s → IsFoundWide y k
row_found y k b s limits other here at =
    let g = grain y in
    let row = s / 2 / g in
    let i = b * g + s / 2 % g in
    let to : wide_word y k ≡ row_word y k i row = here ∙ rw (ne_eqb s (10 * g) other) refl in
    elim (cases_lt row 5) [
      | inl c ↦ elim (cases_lt i y.procs) [
        | inl d ↦ inl (found_at y _ k (Stored (row_place y i row) (k % 2)) _
            (to ∙ rw (lt-ltb row 5 c, lt-ltb i y.procs d) refl)
            (record {
              is = (row_place_below y i row d c, omega arith);
              number = ap (λ n. n + k % 2) (place_row y i row d c)
                  ∙ row_number y k b s (grain_some y limits) at;
            }))
        | inr d ↦ inr (to ∙ rw (lt-ltb row 5 c, le-ltb i y.procs d) refl)
      ]
      | inr c ↦ inr (to ∙ rw (le-ltb row 5 c) refl)
    ]

block_found : (y : LayoutData) (k b s : ℕ) → IsLayout y → b < y.leaves →
    s < block_words (grain y) → k ≡ block_at y b + s → IsFoundWide y k
block_found y k b s limits leaf slot at =
    let here = block_back y b s k leaf slot at in
    elim (cases_eq s (10 * grain y)) [
      | inl z ↦ inl (found_at y _ k (Node (y.leaves + b)) _
          (here ∙ rw (eq-eqb s (10 * grain y) z) refl) (record {
            is = (omega (arith, limits.leaves), omega arith);
            number = let back : y.leaves + b - y.leaves ≡ b = omega arith in
                rw (le-ltb (y.leaves + b) y.leaves (omega arith), back) (omega (arith, at, z));
          }))
      | inr z ↦ row_found y k b s limits z here at
    ]

wide_found : (y : LayoutData) (k : ℕ) → IsLayout y →
    k < wide_claims_at y + cond y.claims y.cells 0 → IsFoundWide y k
wide_found y k limits b = elim (cases_lt k (blocks_at y)) [
  | inl c ↦ line_found y k limits.leaves.0 c
  | inr c ↦ elim (cases_lt k (cells_at y)) [
    | inl d ↦ (let is = block_splits y k c d in
        block_found y k _ _ limits is.row_below is.slot_below is.is)
    | inr d ↦ inl (elim (cases_lt k (wide_claims_at y)) [
      | inl e ↦ found_at y _ k (Stored ((k - cells_at y) / 2) (k % 2)) _ (grind (arith, nat_tests))
          (record { is = (omega arith, omega arith); number = grind (arith, nat_tests) })
      | inr e ↦ found_at y _ k (Claim (k - wide_claims_at y)) _ (grind (arith, nat_tests))
          (claim_found y (wide_number y) (wide_claims_at y) k (λ c. refl) e b)
    ])
  ]
]

-- ---- both forms

number_compact : (y : LayoutData) → y.form ≡ Compact → (a : Word) →
    number_of y a ≡ compact_number y a
unfolding number_of
number_compact y e a = form_compact y.form (compact_number y a) (wide_number y a) e

number_wide : (y : LayoutData) (g : ℕ) → y.form ≡ Wide g → (a : Word) →
    number_of y a ≡ wide_number y a
unfolding number_of
number_wide y g e a = form_wide y.form g (compact_number y a) (wide_number y a) e

word_compact : (y : LayoutData) → y.form ≡ Compact → (k : ℕ) → word_at y k ≡ compact_word y k
unfolding word_at
word_compact y e k = form_compact y.form (compact_word y k) (wide_word y k) e

word_wide : (y : LayoutData) (g : ℕ) → y.form ≡ Wide g → (k : ℕ) → word_at y k ≡ wide_word y k
unfolding word_at
word_wide y g e k = form_wide y.form g (compact_word y k) (wide_word y k) e

length_compact : (y : LayoutData) → y.form ≡ Compact →
    length_of y ≡ claims_at y + cond y.claims y.cells 0
unfolding length_of
length_compact y e =
    ap (λ n. n + cond y.claims y.cells 0) (form_compact y.form (claims_at y) (wide_claims_at y) e)

length_wide : (y : LayoutData) (g : ℕ) → y.form ≡ Wide g →
    length_of y ≡ wide_claims_at y + cond y.claims y.cells 0
unfolding length_of
length_wide y g e =
    ap (λ n. n + cond y.claims y.cells 0) (form_wide y.form g (claims_at y) (wide_claims_at y) e)

-- where the words of a processor begin
pub own_compact : (y : LayoutData) (i counter registers : ℕ) → y.form ≡ Compact →
    counter ≡ places_at y + 2 * (counters_of y + i) →
    registers ≡ places_at y + 2 * register_at y.cells i 0 →
    AreOwn y i (record { counter = counter; registers = registers; stride = 2 })
own_compact y i counter registers e own all = record {
  counter = number_compact y e (Stored (counters_of y + i) 0) ∙ omega arith;
  register = λ r below. number_compact y e (Stored (register_at y.cells i r) 0) ∙ omega arith;
}

pub own_wide : (y : LayoutData) (g i first : ℕ) → y.form ≡ Wide g → i < y.procs →
    first ≡ row_at y i 0 →
    AreOwn y i (record { counter = first; registers = first + 2 * g; stride = 2 * g })
own_wide y g i first e processor begins =
    let size : grain y ≡ g = ap grain_of e in
    let next : (r : ℕ) → row_at y i (1 + r) ≡ row_at y i 0 + 2 * g + 2 * g * r = λ r.
    subst (λ n. row_at y i (1 + r) ≡ row_at y i 0 + 2 * n + 2 * n * r) size (next_row y i r) in
    record {
      counter = number_wide y g e (Stored (counters_of y + i) 0)
          ∙ omega (arith, row_counter y i, begins);
      register = λ r below. number_wide y g e (Stored (register_at y.cells i r) 0)
          ∙ omega (arith, row_register y i r processor below, begins, next r);
    }

-- and where those of cells do
pub cells_compact : (y : LayoutData) (c first : ℕ) → y.form ≡ Compact → first ≡ places_at y →
    number_of y (Stored c 0) ≡ first + 2 * c
cells_compact y c first e begins = number_compact y e (Stored c 0) ∙ omega arith

pub cells_wide : (y : LayoutData) (g c first : ℕ) → y.form ≡ Wide g → c < y.cells →
    first ≡ cells_at y → number_of y (Stored c 0) ≡ first + 2 * c
cells_wide y g c first e below begins =
    number_wide y g e (Stored c 0) ∙ grind (arith, nat_tests)

needed_back : (y : LayoutData) → IsLayout y → (a : Word) →
    IsNeeded y a → word_at y (number_of y a) ≡ a
needed_back y limits a is = elim (cases_form y.form) [
  | inl e ↦ ap (word_at y) (number_compact y e a) ∙ word_compact y e (compact_number y a)
      ∙ compact_back y limits.leaves.0 a is
  | inr e ↦ ap (word_at y) (number_wide y e.0 e.1 a) ∙ word_wide y e.0 e.1 (wide_number y a)
      ∙ wide_back y e.0 limits e.1 a is
]

needed_below : (y : LayoutData) → IsLayout y → (a : Word) →
    IsNeeded y a → number_of y a < length_of y
needed_below y limits a is = elim (cases_form y.form) [
  | inl e ↦ rw (number_compact y e a, length_compact y e) (compact_below y limits.leaves.0 a is)
  | inr e ↦ rw (number_wide y e.0 e.1 a, length_wide y e.0 e.1)
      (wide_below y e.0 limits e.1 a is)
]

found : (y : LayoutData) (k : ℕ) → IsLayout y → k < length_of y →
    Found y (number_of y) k (word_at y k) ⊎ (word_at y k ≡ Spare k)
found y k limits b = elim (cases_form y.form) [
  | inl e ↦ inl (let f = compact_found y k e limits.leaves.0 (rw (← length_compact y e) b) in
      rw (word_compact y e k) (record {
        is = f.is;
        number = number_compact y e (compact_word y k) ∙ f.number;
      }))
  | inr e ↦ rw (word_wide y e.0 e.1 k) (elim (wide_found y k limits
      (rw (← length_wide y e.0 e.1) b)) [
        | inl f ↦ inl (record {
          is = f.is;
          number = number_wide y e.0 e.1 (wide_word y k) ∙ f.number;
        })
        | inr f ↦ inr f
      ])
]

-- a needed word is a word
needed_is : (y : LayoutData) (a : Word) → IsNeeded y a → IsWord y a
needed_is y Conflict is = is
needed_is y (Node n) is = is
needed_is y (Asked i j) is = is
needed_is y (Position w) is = is
needed_is y (Stored p k) is = is
needed_is y (Claim c) is = is
needed_is y (Spare k) is = absurd is

-- a number at which a spare word is found is that of no other
spare_is : (y : LayoutData) (k : ℕ) → IsLayout y → k < length_of y →
    word_at y k ≡ Spare k → IsWord y (Spare k)
spare_is y k limits below e = (
  below,
  λ a is same. subst (IsNeeded y) (sym (needed_back y limits a is) ∙ ap (word_at y) same ∙ e) is,
)

spare_number : (y : LayoutData) (k : ℕ) → number_of y (Spare k) ≡ k
unfolding number_of
spare_number y k = elim (cases_form y.form) [ inl e ↦ rw e refl | inr e ↦ rw e.1 refl ]

word_found : (y : LayoutData) (k : ℕ) → IsLayout y → k < length_of y →
    IsWord y (word_at y k) × (number_of y (word_at y k) ≡ k)
word_found y k limits below = elim (found y k limits below) [
  | inl f ↦ (needed_is y (word_at y k) f.is, f.number)
  | inr e ↦ (
    subst (IsWord y) (sym e) (spare_is y k limits below e),
    ap (number_of y) e ∙ spare_number y k,
  )
]

-- the word of a word's number is that word
pub word_at-number_of : (y : LayoutData) → IsLayout y → (a : Word) →
    IsWord y a → word_at y (number_of y a) ≡ a
word_at-number_of y limits (Spare k) is =
    ap (word_at y) (spare_number y k) ∙ elim (found y k limits is.0) [
      | inl f ↦ absurd (is.1 (word_at y k) f.is f.number)
      | inr e ↦ e
    ]
word_at-number_of y limits Conflict is = needed_back y limits Conflict is
word_at-number_of y limits (Node n) is = needed_back y limits (Node n) is
word_at-number_of y limits (Asked i j) is = needed_back y limits (Asked i j) is
word_at-number_of y limits (Position w) is = needed_back y limits (Position w) is
word_at-number_of y limits (Stored p k) is = needed_back y limits (Stored p k) is
word_at-number_of y limits (Claim c) is = needed_back y limits (Claim c) is

-- a word's number is below the length
pub number_of_below : (y : LayoutData) → IsLayout y → (a : Word) →
    IsWord y a → number_of y a < length_of y
number_of_below y limits (Spare k) is = omega (arith, spare_number y k, is.0)
number_of_below y limits Conflict is = needed_below y limits Conflict is
number_of_below y limits (Node n) is = needed_below y limits (Node n) is
number_of_below y limits (Asked i j) is = needed_below y limits (Asked i j) is
number_of_below y limits (Position w) is = needed_below y limits (Position w) is
number_of_below y limits (Stored p k) is = needed_below y limits (Stored p k) is
number_of_below y limits (Claim c) is = needed_below y limits (Claim c) is

conflict_first : (y : LayoutData) → number_of y Conflict ≡ 0
unfolding number_of
conflict_first y = elim (cases_form y.form) [ inl e ↦ rw e refl | inr e ↦ rw e.1 refl ]

second_follows : (y : LayoutData) (p : ℕ) → number_of y (Stored p 1) ≡ number_of y (Stored p 0) + 1
unfolding number_of
second_follows y p =
    elim (cases_form y.form) [ inl e ↦ rw e (omega arith) | inr e ↦ rw e.1 (omega arith) ]

pub numbering : (y : LayoutData) → IsLayout y → IsNumbering y
numbering y limits =
    record {
      conflict = conflict_first y;
      node = λ e n. unfold number_of in rw e refl;
      second = second_follows y;
      apart = λ a b is_a is_b e. sym (word_at-number_of y limits a is_a)
          ∙ ap (word_at y) e ∙ word_at-number_of y limits b is_b;
      below = number_of_below y limits;
      word = λ k b. word_found y k limits b;
    }

-- a word's range is what is admitted at its number
admitted : (y : LayoutData) (job : JobData) → IsLayout y → (a : Word) (v : ℕ) → IsWord y a →
    IsInRange y job a v ↔ Admits y job (number_of y a) v
admitted y job limits a v is =
    let same = word_at-number_of y limits a is in (
      λ h. (number_of_below y limits a is, subst (λ (b : Word). IsInRange y job b v) (sym same) h),
      λ h. subst (λ (b : Word). IsInRange y job b v) same h.1,
    )

fits : (y : LayoutData) (job : JobData) → IsLayout y → job.steps < 2 ^ 32 → (a : Word) (v : ℕ) →
    IsInRange y job a v → v < 2 ^ 64
fits y job limits steps Conflict v h = omega arith
fits y job limits steps (Node n) v h = omega arith
fits y job limits steps (Asked i j) v h = let up = h.0 in omega arith
fits y job limits steps (Position w) v h = let top = limits.leaves.1 in omega arith
fits y job limits steps (Stored p k) v h = let up = h.0 in omega arith
fits y job limits steps (Claim c) v h = let up = h.0 in omega arith
fits y job limits steps (Spare k) v h = omega arith

pub ranges : (y : LayoutData) (job : JobData) → IsLayout y → job.steps < 2 ^ 32 → HasRanges y job
ranges y job limits steps =
    record { admitted = admitted y job limits; fits = fits y job limits steps }
