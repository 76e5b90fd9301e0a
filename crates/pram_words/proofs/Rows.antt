-- Where the words of the leaves' blocks lie in the wide form.
use Rattle.std.proofs.Common.{◌≡◌, ℕ, ◌+◌, ◌-◌, ◌*◌, ◌/◌, ◌%◌, ◌<◌, ◌≤◌}
use Rattle.std.proofs.Common.{inl, inr, refl, sym, ap, ◌∙◌, arith, lit<}
use Rattle.std.proofs.lemmas.Bool.{cases_lt, cases_eq, lt-ltb, le-ltb, eq-eqb, ne_eqb}
use Rattle.std.proofs.lemmas.Nat.{div-add-mod', div-mul-add, mod-mul-add, mul-add-lt}
use Rattle.std.proofs.Math.Nat.{mul-le-mul_left, mul-le-mul_right}
use Rattle.std.proofs.Math.Nat.{mod-lt, mul_assoc, mul_comm, mul_left_comm}
use Rattle.std.proofs.Math.Nat.{lt_of_mul-lt-mul_right, suc-mul}
use Rattle.pram_job.specs.Places.{register_at}
use Rattle.pram_words.specs.declared.words.Word.TheVariants.{Stored}
use Rattle.pram_words.specs.Words.{LayoutData, IsLayout, block_at, block_word, block_words}
use Rattle.pram_words.specs.Words.{blocks_at, cells_at, counters_of, grain, row_at, row_place}
use Rattle.pram_words.specs.Words.{places_of, wide_claims_at, wide_place, wide_word}
use Rattle.pram_words.proofs.Blocks.{block_below}

-- ---- rows of so many numbers, from a first one on

record InRow (from count width at row slot : ℕ) : Type 0 where
  low : from ≤ at
  below : at < from + count * width
  row_is : (at - from) / width ≡ row
  slot_is : (at - from) % width ≡ slot

in_row : (from count width at row slot : ℕ) → row < count → slot < width →
    at ≡ from + row * width + slot → InRow from count width at row slot
in_row from count width at row slot less short is =
    let rest : at - from ≡ row * width + slot = omega (arith, is) in
    let up = mul-add-lt row width slot count less short in
    record {
      low = omega (arith, is);
      below = omega (arith, is, up, mul_comm width count);
      row_is = ap (λ n. n / width) rest ∙ div-mul-add row width slot short;
      slot_is = ap (λ n. n % width) rest ∙ mod-mul-add row width slot short;
    }

pub record Splits (from count width at row slot : ℕ) : Type 0 where
  pub row_below : row < count
  pub slot_below : slot < width
  pub is : at ≡ from + row * width + slot

splits : (from count width at : ℕ) → 1 ≤ width → from ≤ at → at < from + count * width →
    Splits from count width at ((at - from) / width) ((at - from) % width)
splits from count width at some low below =
    let parts = div-add-mod' (at - from) width in
    record {
      row_below = lt_of_mul-lt-mul_right width (omega (arith, parts, below, low));
      slot_below = mod-lt (at - from) some;
      is = omega (arith, parts, low);
    }

-- ---- the two words of a lane in a row of a block, by the words' halves

record InLane (grain slot row lane which : ℕ) : Type 0 where
  row_is : slot / 2 / grain ≡ row
  lane_is : slot / 2 % grain ≡ lane
  below : slot < 10 * grain

in_lane : (grain slot row lane which : ℕ) → row < 5 → lane < grain → which < 2 →
    slot ≡ 2 * (row * grain + lane) + which → InLane grain slot row lane which
in_lane grain slot row lane which less low two is =
    let half : slot / 2 ≡ row * grain + lane = omega (arith, is) in
    let up = mul-add-lt row grain lane 5 less low in
    record {
      row_is = ap (λ n. n / grain) half ∙ div-mul-add row grain lane low;
      lane_is = ap (λ n. n % grain) half ∙ mod-mul-add row grain lane low;
      below = omega (arith, is, up);
    }

-- ---- blocks

-- each has whole lines, with room for ten words a processor and one more
pub block_most : (g : ℕ) → 1 ≤ g → block_words g ≤ 16 * g
block_most g some = omega arith

pub block_least : (g : ℕ) → 10 * g < block_words g
block_least g = omega arith

pub blocks_most : (y : LayoutData) (b : ℕ) → IsLayout y → 1 ≤ grain y → b ≤ y.leaves →
    block_at y b ≤ 1573376
blocks_most y b limits some leaf =
    let g = grain y in
    let each = mul-le-mul_left b (block_most g some) in
    let all = mul-le-mul_right g leaf in
    omega (
      arith,
      each,
      all,
      mul_left_comm b 16 g,
      mul_comm g y.leaves,
      limits.room,
      limits.leaves,
      limits.workers,
    )

block_even : (y : LayoutData) (b s k : ℕ) → k ≡ block_at y b + s → k % 2 ≡ s % 2
block_even y b s k e =
    let lines = mul_left_comm b 8 ((10 * grain y + 8) / 8) in omega (arith, e, lines)

-- the word at a slot of a block
pub block_back : (y : LayoutData) (b s k : ℕ) → b < y.leaves → s < block_words (grain y) →
    k ≡ block_at y b + s → wide_word y k ≡ block_word y k b s
block_back y b s k leaf slot e =
    let is = in_row (blocks_at y) y.leaves (block_words (grain y)) k b s leaf slot e in
    rw (le-ltb k (blocks_at y) is.low, lt-ltb k (cells_at y) is.below, is.row_is, is.slot_is) refl

-- the word of a processor in a row
pub row_back : (y : LayoutData) (i row which k : ℕ) → IsLayout y → 1 ≤ grain y → i < y.procs →
    row < 5 → which < 2 → k ≡ row_at y i row + which →
    wide_word y k ≡ Stored (row_place y i row) which
row_back y i row which k limits some proc less two e =
    let g = grain y in
    let b = i / g in
    let lane = i % g in
    let s = 2 * (row * g + lane) + which in
    let low : lane < g = mod-lt i some in
    let is = in_lane g s row lane which less low two refl in
    let at : k ≡ block_at y b + s = omega (arith, e) in
    let slot : s < block_words g = omega (arith, is.below, block_least g) in
    let even : k % 2 ≡ which = block_even y b s k at ∙ omega arith in
    let whole : b * g + lane ≡ i = div-add-mod' i g in
    block_back y b s k (block_below y i limits proc) slot at
    ∙ rw (
      ne_eqb s (10 * g) (λ e. omega (arith, is.below, e)),
      is.row_is,
      is.lane_is,
      whole,
      lt-ltb row 5 less,
      lt-ltb i y.procs proc,
      even,
    ) refl

-- the place of a processor in a row
pub place_counter : (y : LayoutData) (i row : ℕ) → row ≡ 0 → row_place y i row ≡ counters_of y + i
place_counter y i row z = rw (eq-eqb row 0 z) refl

pub place_register : (y : LayoutData) (i row r : ℕ) → row ≡ 1 + r →
    row_place y i row ≡ register_at y.cells i r
place_register y i row r e = rw (ne_eqb row 0 (λ z. omega (arith, e, z))) (omega (arith, e))

pub row_place_below : (y : LayoutData) (i row : ℕ) → i < y.procs → row < 5 →
    row_place y i row < places_of y
row_place_below y i row proc less = elim (cases_eq row 0) [
  | inl z ↦ rw (place_counter y i row z) (omega arith)
  | inr n ↦ rw (place_register y i row (row - 1) (omega arith)) (omega arith)
]

-- and its first word
pub row_counter : (y : LayoutData) (i : ℕ) → wide_place y (counters_of y + i) ≡ row_at y i 0
row_counter y i =
    let back : counters_of y + i - counters_of y ≡ i = omega arith in
    rw (
      le-ltb (counters_of y + i) y.cells (omega arith),
      le-ltb (counters_of y + i) (counters_of y) (omega arith),
      back,
    ) refl

pub row_register : (y : LayoutData) (i r : ℕ) → i < y.procs → r < 4 →
    wide_place y (register_at y.cells i r) ≡ row_at y i (1 + r)
row_register y i r proc less =
    let p = register_at y.cells i r in
    let processor : (p - y.cells) / 4 ≡ i = omega arith in
    let register : (p - y.cells) % 4 ≡ r = omega arith in
    rw (le-ltb p y.cells (omega arith), lt-ltb p (counters_of y) (omega arith), processor, register)
    refl

pub place_row : (y : LayoutData) (i row : ℕ) → i < y.procs → row < 5 →
    wide_place y (row_place y i row) ≡ row_at y i row
place_row y i row proc less = elim (cases_eq row 0) [
  | inl z ↦ ap (wide_place y) (place_counter y i row z) ∙ row_counter y i
      ∙ ap (row_at y i) (sym z)
  | inr n ↦ (let next : 1 + (row - 1) ≡ row = omega arith in
      ap (wide_place y) (place_register y i row (row - 1) (omega arith))
      ∙ row_register y i (row - 1) proc (omega arith) ∙ ap (row_at y i) next)
]

pub slot_below : (y : LayoutData) (b s : ℕ) → b < y.leaves → s < block_words (grain y) →
    block_at y b + s < cells_at y
slot_below y b s leaf slot =
    (in_row (blocks_at y) y.leaves (block_words (grain y)) _ b s leaf slot refl).below

-- a processor's words lie before the cells'
pub row_below : (y : LayoutData) (i row : ℕ) → IsLayout y → 1 ≤ grain y → i < y.procs → row < 5 →
    row_at y i row + 1 < cells_at y
row_below y i row limits some proc less =
    let g = grain y in
    let s = 2 * (row * g + i % g) + 1 in
    let is = in_lane g s row (i % g) 1 less (mod-lt i some) (lit< tt) refl in
    let below = slot_below y (i / g) s (block_below y i limits proc)
    (omega (arith, is.below, block_least g)) in
    omega (arith, below)

pub place_below : (y : LayoutData) (p : ℕ) → IsLayout y → 1 ≤ grain y → p < places_of y →
    wide_place y p + 1 < wide_claims_at y
place_below y p limits some place = elim (cases_lt p y.cells) [
  | inl c ↦ rw (lt-ltb p y.cells c) (omega arith)
  | inr c ↦ elim (cases_lt p (counters_of y)) [
    | inl d ↦ rw (le-ltb p y.cells c, lt-ltb p (counters_of y) d)
        (let below = row_below y ((p - y.cells) / 4) (1 + (p - y.cells) % 4) limits some
        (omega arith) (omega arith) in omega (arith, below))
    | inr d ↦ rw (le-ltb p y.cells c, le-ltb p (counters_of y) d)
        (let below = row_below y (p - counters_of y) 0 limits some (omega arith) (lit< tt) in
        omega (arith, below))
  ]
]

-- a number in a block is that of its processor in its row
pub row_number : (y : LayoutData) (k b s : ℕ) → 1 ≤ grain y → k ≡ block_at y b + s →
    row_at y (b * grain y + s / 2 % grain y) (s / 2 / grain y) + k % 2 ≡ k
row_number y k b s some at =
    let g = grain y in
    let lane = s / 2 % g in
    let low : lane < g = mod-lt (s / 2) some in
    rw (
      div-mul-add b g lane low,
      mod-mul-add b g lane low,
      div-add-mod' (s / 2) g,
      block_even y b s k at,
    ) (omega (arith, at))

-- the words of a later processor of the block
pub row_later : (y : LayoutData) (i more row : ℕ) → i % grain y + more < grain y →
    row_at y (i + more) row ≡ row_at y i row + 2 * more
row_later y i more row room =
    let g = grain y in
    let b = i / g in
    let lane = i % g + more in
    let split : i + more ≡ b * g + lane = omega (arith, div-add-mod' i g) in
    let block : (i + more) / g ≡ b = ap (λ n. n / g) split ∙ div-mul-add b g lane room in
    let here : (i + more) % g ≡ lane = ap (λ n. n % g) split ∙ mod-mul-add b g lane room in
    rw (block, here) (omega arith)

-- the row of a register from that of counters
pub next_row : (y : LayoutData) (i r : ℕ) →
    row_at y i (1 + r) ≡ row_at y i 0 + 2 * grain y + 2 * grain y * r
next_row y i r =
    let g = grain y in
    let spread : (1 + r) * g ≡ r * g + g = ap (λ n. n * g) (omega arith) ∙ suc-mul r g in
    let same : 2 * g * r ≡ 2 * (r * g) = mul_assoc 2 g r ∙ ap (λ n. 2 * n) (mul_comm g r) in
    omega (arith, spread, same)

pub block_splits : (y : LayoutData) (k : ℕ) → blocks_at y ≤ k → k < cells_at y →
    Splits (blocks_at y) y.leaves (block_words (grain y)) k
    ((k - blocks_at y) / block_words (grain y)) ((k - blocks_at y) % block_words (grain y))
block_splits y k low below =
    splits (blocks_at y) y.leaves (block_words (grain y)) k (omega arith) low below
