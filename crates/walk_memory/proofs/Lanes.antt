-- The memory of a worker by its blocks: the memo of processor i is lane i % 64 of block i / 64.
use Rattle.std.proofs.Common.{◌≡◌, ◌≢◌, ℕ, zero, suc, ◌+◌, ◌*◌, ◌/◌, ◌%◌, ◌<◌, ◌≤◌, List, [], ◌∷◌}
use Rattle.std.proofs.Common.{false, length, slice_get, slice_index, slice_index_or, Option, Some}
use Rattle.std.proofs.Common.{Bor, None, refl, ap, sym, ◌∙◌, inl, inr, arith}
use Rattle.std.specs.Prelude.{IfNone, IfSome, slice_set, replicate, unwrap_or}
use Rattle.std.specs.Slice.{IsItemAt}
use Rattle.std.proofs.Math.ListN.{length-set}
use Rattle.std.proofs.lemmas.Bool.{cases_lt}
use Rattle.std.proofs.lemmas.Option.{slice_get-get_or, slice_get_past}
use Rattle.walk_memory.specs.declared.as_one.Standing.{Standing}
use Rattle.walk_memory.specs.declared.block.Block.{Block}
use Rattle.walk_memory.specs.declared.memo.Memo.{Memo}
use Rattle.walk_memory.specs.Lanes.{lane, lane_at, lane_in, memos_from, memos_of}
use Rattle.walk_memory.specs.Memory.{at_start, blank, memo_of}
use Rattle.walk_memory.specs.Standing.{StandThere}
use Rattle.walk_memory.proofs.Memories.{set_past}

-- ---- a block before the first step

abbrev pub block_at_start : (n : ℕ) (standing : Standing) → StandThere standing (replicate n 0)
    (replicate n 0) (replicate n 0) (replicate n 0) (replicate n false) → Block
block_at_start n standing stand = record {
  acted = replicate n 0;
  step = replicate n 0;
  counter = replicate n 0;
  registers = replicate n 0 ∷ replicate n 0 ∷ replicate n 0 ∷ replicate n 0 ∷ [];
  settled = replicate n 0;
  told_counter = replicate n 0;
  told = replicate n 0 ∷ replicate n 0 ∷ replicate n 0 ∷ replicate n 0 ∷ [];
  stored = replicate n false;
  cell = replicate n 0;
  value = replicate n 0;
  standing = standing;
  stand = stand;
}

zero_there : (n k : ℕ) → slice_index (replicate n 0) k ≡ 0
zero_there zero k = refl
zero_there (suc n) zero = refl
zero_there (suc n) (suc k) = zero_there n k

false_there : (n k : ℕ) → slice_index_or (replicate n false) k false ≡ false
false_there zero k = refl
false_there (suc n) zero = refl
false_there (suc n) (suc k) = false_there n k

pub start_lane : (n k : ℕ) (standing : Standing) (stand : StandThere standing (replicate n 0)
    (replicate n 0) (replicate n 0) (replicate n 0) (replicate n false)) →
    lane (block_at_start n standing stand) k ≡ at_start
start_lane n k standing stand = rw (zero_there n k, false_there n k) refl

-- ---- what is known of a processor

length_memos : (blocks : List Block) (i more : ℕ) → length (memos_from blocks i more) ≡ more
unfolding memos_from
length_memos blocks i zero = refl
length_memos blocks i (suc more) = ap suc (length_memos blocks (suc i) more)

pub length_all : (blocks : List Block) → length (memos_of blocks) ≡ 64 * length blocks
length_all blocks = length_memos blocks 0 (64 * length blocks)

get_from : (blocks : List Block) (i more k : ℕ) → k < more →
    slice_get (memos_from blocks i more) k ≡ Some (lane_at blocks (i + k))
unfolding memos_from
get_from blocks i zero k low = absurd (omega (arith, low))
get_from blocks i (suc more) zero low =
    let e : i ≡ i + 0 = omega arith in ap (λ (j : ℕ). Some (lane_at blocks j)) e
get_from blocks i (suc more) (suc k) low =
    let e : suc i + k ≡ i + suc k = omega arith in
    get_from blocks (suc i) more k (omega (arith, low))
    ∙ ap (λ (j : ℕ). Some (lane_at blocks j)) e

-- of one that is there
pub get_all : (blocks : List Block) (i q k : ℕ) (block : Block) → q ≡ i / 64 → k ≡ i % 64 →
    slice_get blocks q ≡ Some block → q < length blocks →
    slice_get (memos_of blocks) i ≡ Some (lane block k)
get_all blocks i q k block at there is low =
    let e : 0 + i ≡ i = omega arith in
    get_from blocks 0 (64 * length blocks) i (omega (arith, at, low))
    ∙ (ap (λ (j : ℕ). Some (lane_at blocks j)) e
    ∙ (ap (λ (o : Option Block). Some (lane_in o (i % 64))) (ap (slice_get blocks) (sym at) ∙ is)
    ∙ ap (λ (j : ℕ). Some (lane block j)) (sym there)))

-- and of none that is not
pub get_none : (blocks : List Block) (i q : ℕ) → q ≡ i / 64 → length blocks ≤ q →
    slice_get (memos_of blocks) i ≡ None
get_none blocks i q at past = slice_get_past (memos_of blocks) i
    (let long = length_all blocks in omega (arith, at, past, long))

-- of those of a block that is looked up
module _ (blocks : List Block) (q : ℕ) where
  pub found_some : (found : Option (Bor Block)) → IsItemAt blocks q found →
      IfSome found (λ block. (k : ℕ) → k < 64 →
      slice_get (memos_of blocks) (64 * q + k) ≡ Some (lane block.now k))
  found_some None is = tt
  found_some (Some block) is = λ k low. get_all blocks (64 * q + k) q k block.now
      (omega (arith, low)) (omega (arith, low))
      (slice_get-get_or blocks q block.now is.3.0 ∙ ap Some (sym is.1)) is.3.0

  pub found_none : (found : Option (Bor Block)) → IsItemAt blocks q found →
      IfNone found (length (memos_of blocks) ≤ 64 * q)
  found_none (Some block) is = tt
  found_none None is = omega (arith, is.3, length_all blocks)

-- of each
pub memo_of_all : (blocks : List Block) (i : ℕ) → memo_of (memos_of blocks) i ≡ lane_at blocks i
memo_of_all blocks i = elim (cases_lt i (64 * length blocks)) [
  | inl low ↦ (
      let e : 0 + i ≡ i = omega arith in
      ap (λ (o : Option Memo). unwrap_or o at_start) (get_from blocks 0 (64 * length blocks) i low)
      ∙ ap (λ (j : ℕ). lane_at blocks j) e)
  | inr past ↦ (
      let q : length blocks ≤ i / 64 = omega (arith, past) in
      ap (λ (o : Option Memo). unwrap_or o at_start) (get_none blocks i (i / 64) refl q)
      ∙ sym (ap (λ (o : Option Block). lane_in o (i % 64)) (slice_get_past blocks (i / 64) q)))
]

-- ---- one is changed

pub get_same : (blocks : List Block) (q : ℕ) (block : Block) → q < length blocks →
    slice_get (slice_set blocks q block) q ≡ Some block
get_same [] q block low = absurd (omega (arith, low))
get_same (b ∷ blocks) zero block low = refl
get_same (b ∷ blocks) (suc q) block low = get_same blocks q block (omega (arith, low))

pub get_other : (blocks : List Block) (q p : ℕ) (block : Block) → p ≢ q →
    slice_get (slice_set blocks q block) p ≡ slice_get blocks p
get_other [] q p block other = refl
get_other (b ∷ blocks) zero zero block other = absurd (other refl)
get_other (b ∷ blocks) zero (suc p) block other = refl
get_other (b ∷ blocks) (suc q) zero block other = refl
get_other (b ∷ blocks) (suc q) (suc p) block other =
    get_other blocks q p block (λ e. other (ap suc e))

same_from : (blocks other : List Block) (i more : ℕ) →
    ((j : ℕ) → i ≤ j → lane_at other j ≡ lane_at blocks j) →
    memos_from other i more ≡ memos_from blocks i more
unfolding memos_from
same_from blocks other i zero each = refl
same_from blocks other i (suc more) each =
    ap (λ (m : Memo). m ∷ memos_from other (suc i) more) (each i (omega arith))
    ∙ ap (λ (memos : List Memo). lane_at blocks i ∷ memos)
    (same_from blocks other (suc i) more (λ j later. each j (omega (arith, later))))

set_from : (blocks other : List Block) (i more k : ℕ) (memo : Memo) →
    lane_at other (i + k) ≡ memo → ((j : ℕ) → j ≢ i + k → lane_at other j ≡ lane_at blocks j) →
    memos_from other i more ≡ slice_set (memos_from blocks i more) k memo
unfolding memos_from
set_from blocks other i zero k memo here each = refl
set_from blocks other i (suc more) zero memo here each =
    let e : i ≡ i + 0 = omega arith in
    ap (λ (m : Memo). m ∷ memos_from other (suc i) more) (ap (λ (j : ℕ). lane_at other j) e ∙ here)
    ∙ ap (λ (memos : List Memo). memo ∷ memos) (same_from blocks other (suc i) more
    (λ j later. each j (λ same. absurd (omega (arith, same, later)))))
set_from blocks other i (suc more) (suc k) memo here each =
    let e : suc i + k ≡ i + suc k = omega arith in
    ap (λ (m : Memo). m ∷ memos_from other (suc i) more)
    (each i (λ same. absurd (omega (arith, same))))
    ∙ ap (λ (memos : List Memo). lane_at blocks i ∷ memos) (set_from blocks other (suc i) more k
    memo (ap (λ (j : ℕ). lane_at other j) e ∙ here)
    (λ j differs. each j (λ same. differs (omega (arith, same)))))

-- a lane of a block
module _ (blocks : List Block) (i q k : ℕ) (old block : Block) (memo : Memo) (at : q ≡ i / 64)
    (there : k ≡ i % 64) (low : q < length blocks) (is : slice_get blocks q ≡ Some old)
    (same : lane block k ≡ memo) (others : (j : ℕ) → j ≢ k → lane block j ≡ lane old j) where
  here : lane_at (slice_set blocks q block) i ≡ memo
  here = ap (λ (o : Option Block). lane_in o (i % 64))
      (ap (slice_get (slice_set blocks q block)) (sym at) ∙ get_same blocks q block low)
      ∙ (ap (λ (j : ℕ). lane block j) (sym there) ∙ same)

  in_block : (j : ℕ) → j ≢ i → j / 64 ≡ q → lane_at (slice_set blocks q block) j ≡ lane_at blocks j
  in_block j other e =
      ap (λ (o : Option Block). lane_in o (j % 64))
      (ap (slice_get (slice_set blocks q block)) e ∙ get_same blocks q block low)
      ∙ (others (j % 64) (λ f. other (omega (arith, e, f, at, there)))
      ∙ sym (ap (λ (o : Option Block). lane_in o (j % 64)) (ap (slice_get blocks) e ∙ is)))

  elsewhere : (j : ℕ) → j / 64 ≢ q → lane_at (slice_set blocks q block) j ≡ lane_at blocks j
  elsewhere j other = ap (λ (o : Option Block). lane_in o (j % 64))
      (get_other blocks q (j / 64) block other)

  each : (j : ℕ) → j ≢ i → lane_at (slice_set blocks q block) j ≡ lane_at blocks j
  each j other = elim (cases_lt (j / 64) q) [
    | inl less ↦ elsewhere j (λ e. absurd (omega (arith, less, e)))
    | inr least ↦ elim (cases_lt q (j / 64)) [
      | inl more ↦ elsewhere j (λ e. absurd (omega (arith, more, e)))
      | inr most ↦ in_block j other (omega (arith, least, most))
    ]
  ]

  pub set_all : memos_of (slice_set blocks q block) ≡ slice_set (memos_of blocks) i memo
  set_all = let e : 0 + i ≡ i = omega arith in
      ap (λ (n : ℕ). memos_from (slice_set blocks q block) 0 (64 * n))
      (length-set blocks q block)
      ∙ set_from blocks (slice_set blocks q block) 0 (64 * length blocks) i memo
      (ap (λ (j : ℕ). lane_at (slice_set blocks q block) j) e ∙ here)
      (λ j other. each j (λ same. other (same ∙ sym e)))

-- one that is not there
pub set_none : (blocks : List Block) (i q : ℕ) (memo : Memo) → q ≡ i / 64 → length blocks ≤ q →
    memos_of blocks ≡ slice_set (memos_of blocks) i memo
set_none blocks i q memo at past = set_past (memos_of blocks) i memo
    (let long = length_all blocks in omega (arith, at, past, long))

-- ---- before the first step

blank_from : (blocks : List Block) (i more : ℕ) → ((j : ℕ) → lane_at blocks j ≡ at_start) →
    memos_from blocks i more ≡ replicate more at_start
unfolding memos_from
blank_from blocks i zero each = refl
blank_from blocks i (suc more) each =
    ap (λ (m : Memo). m ∷ memos_from blocks (suc i) more) (each i)
    ∙ ap (λ (memos : List Memo). at_start ∷ memos) (blank_from blocks (suc i) more each)

start_in : (n : ℕ) (block : Block) → ((k : ℕ) → lane block k ≡ at_start) → (q k : ℕ) →
    lane_in (slice_get (replicate n block) q) k ≡ at_start
start_in zero block start q k = refl
start_in (suc n) block start zero k = start k
start_in (suc n) block start (suc q) k = start_in n block start q k

pub blank_all : (n : ℕ) (block : Block) (blocks : List Block) →
    ((k : ℕ) → lane block k ≡ at_start) → blocks ≡ replicate n block →
    memos_of blocks ≡ blank (length (memos_of blocks))
blank_all n block blocks start is =
    blank_from blocks 0 (64 * length blocks) (λ j.
    ap (λ (bs : List Block). lane_at bs j) is ∙ start_in n block start (j / 64) (j % 64))
    ∙ ap (λ (m : ℕ). replicate m at_start) (sym (length_all blocks))

-- ---- four numbers, each set

pub four_are : (xs : List ℕ) → length xs ≡ 4 → xs ≡ slice_index xs 0 ∷ slice_index xs 1
    ∷ slice_index xs 2 ∷ slice_index xs 3 ∷ []
four_are [] four = absurd (omega (arith, four))
four_are (a ∷ []) four = absurd (omega (arith, four))
four_are (a ∷ b ∷ []) four = absurd (omega (arith, four))
four_are (a ∷ b ∷ c ∷ []) four = absurd (omega (arith, four))
four_are (a ∷ b ∷ c ∷ d ∷ []) four = refl
four_are (a ∷ b ∷ c ∷ d ∷ e ∷ xs) four = absurd (omega (arith, four))

pub four_set : (xs row : List ℕ) → length xs ≡ 4 → length row ≡ 4 →
    slice_set (slice_set (slice_set (slice_set xs 0 (slice_index row 0)) 1 (slice_index row 1)) 2
    (slice_index row 2)) 3 (slice_index row 3) ≡ row
four_set xs row four new =
    ap (λ (ys : List ℕ). slice_set (slice_set (slice_set (slice_set ys 0 (slice_index row 0)) 1
    (slice_index row 1)) 2 (slice_index row 2)) 3 (slice_index row 3)) (four_are xs four)
    ∙ sym (four_are row new)
