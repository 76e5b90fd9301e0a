-- What is remembered once some processors of a block did what they do alike.
use Rattle.std.proofs.Common.{◌≡◌, ◌≢◌, ℕ, zero, suc, ◌+◌, ◌-◌, ◌*◌, ◌/◌, ◌%◌, ◌<◌, ◌≤◌, List}
use Rattle.std.proofs.Common.{length, slice_get, slice_index, Some, refl, sym, ap, subst, ◌∙◌, inl}
use Rattle.std.proofs.Common.{inr, arith}
use Rattle.std.specs.Prelude.{slice_set}
use Rattle.std.proofs.Math.ListN.{length-set}
use Rattle.std.proofs.lemmas.Bool.{cases_lt}
use Rattle.walk_memory.specs.declared.block.Block.{Block}
use Rattle.walk_memory.specs.declared.memo.Memo.{Memo}
use Rattle.walk_memory.specs.Inner.Posts.{PostData, at_rank, processor_of}
use Rattle.walk_memory.specs.Lanes.{lane, memos_of}
use Rattle.walk_memory.specs.Memory.{memo_of}
use Rattle.walk_memory.specs.Plain.{done_all}
use Rattle.walk_memory.proofs.AsFar.{set_there}
use Rattle.walk_memory.proofs.Lanes.{length_all}
use Rattle.walk_memory.proofs.Memories.{memo_other, set_past}
use Rattle.walk_memory.proofs.Ways.{elsewhere, now_at, same_memories, was_at}

-- the processor so many ranks after the post's
abbrev pub after : PostData → ℕ → ℕ
after at m = processor_of (at_rank at (at.rank + m))

module _ (at : PostData) (memory : List Memo) where
  module _ (does : ℕ → Memo) where
    abbrev then : ℕ → List Memo
    then n = done_all at n does memory

    pub length_done : (n : ℕ) → length (done_all at n does memory) ≡ length memory
    unfolding done_all
    length_done zero = refl
    length_done (suc n) =
        length-set (then n) (after at n) (does (after at n)) ∙ length_done n

    -- of one that is none of them
    pub done_other : (n i : ℕ) → ((m : ℕ) → m < n → after at m ≢ i) →
        memo_of (done_all at n does memory) i ≡ memo_of memory i
    unfolding done_all
    done_other zero i none = refl
    done_other (suc n) i none =
        memo_other (then n) (after at n) i (does (after at n)) (none n (omega arith))
        ∙ done_other n i (λ m low. none m (omega (arith, low)))

    -- of one of them
    pub done_there : (n m : ℕ) → m < n → after at m < length memory →
        memo_of (done_all at n does memory) (after at m) ≡ does (after at m)
    unfolding done_all
    done_there zero m low inside = absurd (omega (arith, low))
    done_there (suc n) m low inside = elim (cases_lt m n) [
      | inl less ↦ memo_other (then n) (after at n) (after at m) (does (after at n))
          (λ e. absurd (omega (arith, less, e))) ∙ done_there n m less inside
      | inr not_less ↦
          let e : n ≡ m = omega (arith, low, not_less) in
          subst (λ (x : ℕ). memo_of (slice_set (then n) (after at n) (does (after at n)))
          (after at x) ≡ does (after at x)) e
          (set_there (then n) (after at n) (does (after at n))
          (omega (arith, inside, e, length_done n)))
    ]

    -- without memory of them all is as it was
    pub done_past : (n : ℕ) → length memory ≤ processor_of at →
        memory ≡ done_all at n does memory
    unfolding done_all
    done_past zero past = refl
    done_past (suc n) past = done_past n past
        ∙ set_past (then n) (after at n) (does (after at n))
        (omega (arith, past, length_done n))

  -- what others do does not matter
  pub done_same : (does other : ℕ → Memo) (n : ℕ) →
      ((m : ℕ) → m < n → other (after at m) ≡ does (after at m)) →
      done_all at n other memory ≡ done_all at n does memory
  unfolding done_all
  done_same does other zero same = refl
  done_same does other (suc n) same =
      ap (λ (memos : List Memo). slice_set memos (after at n) (other (after at n)))
      (done_same does other n (λ m low. same m (omega (arith, low))))
      ∙ ap (λ (memo : Memo). slice_set (done_all at n does memory) (after at n) memo)
      (same n (omega arith))

  -- one more
  pub done_more : (does other : ℕ → Memo) (n : ℕ) →
      ((m : ℕ) → m < n → other (after at m) ≡ does (after at m)) →
      slice_set (done_all at n does memory) (after at n) (other (after at n))
      ≡ done_all at (suc n) other memory
  unfolding done_all
  done_more does other n same =
      ap (λ (memos : List Memo). slice_set memos (after at n) (other (after at n)))
      (sym (done_same does other n same))

  -- one more, by its lane's value
  pub values_more : (does : ℕ → ℕ → Memo) (values other : List ℕ) (n value : ℕ) →
      after at 0 % 64 + n < 64 → slice_index other (after at n % 64) ≡ value →
      ((k : ℕ) → k ≢ after at n % 64 → slice_index other k ≡ slice_index values k) →
      slice_set (done_all at n (λ i. does i (slice_index values (i % 64))) memory) (after at n)
      (does (after at n) value)
      ≡ done_all at (suc n) (λ i. does i (slice_index other (i % 64))) memory
  values_more does values other n value row here others =
      ap (λ (v : ℕ). slice_set (done_all at n (λ i. does i (slice_index values (i % 64))) memory)
      (after at n) (does (after at n) v)) (sym here)
      ∙ done_more (λ i. does i (slice_index values (i % 64)))
      (λ i. does i (slice_index other (i % 64))) n (λ m low. ap (does (after at m))
      (others (after at m % 64) (λ e. absurd (omega (arith, e, low, row)))))

-- what is known of a lane is what is remembered
pub lane_there : (at : PostData) (blocks : List Block) (q start : ℕ) (old : Block) →
    q < length blocks → slice_get blocks q ≡ Some old → 64 * q + start ≡ processor_of at →
    (k : ℕ) → start ≤ k → k < 64 → memo_of (memos_of blocks) (after at (k - start)) ≡ lane old k
lane_there at blocks q start old low is first k from to =
    let i = after at (k - start) in
    let i_is : i ≡ 64 * q + k = omega (arith, first, from) in
    was_at blocks q old old low is i (omega (arith, i_is, to))
    ∙ ap (lane old) (omega (arith, i_is, to))

-- lanes of a block did, each by what was known of it
module _ (at : PostData) (blocks : List Block) (q start end : ℕ) (old block : Block)
    (low : q < length blocks) (is : slice_get blocks q ≡ Some old)
    (first : 64 * q + start ≡ processor_of at) (most : end ≤ 64) (does : Memo → ℕ → Memo)
    (there : (k : ℕ) → start ≤ k → k < end → lane block k ≡ does (lane old k) k)
    (before : (k : ℕ) → k < start → lane block k ≡ lane old k)
    (later : (k : ℕ) → end ≤ k → lane block k ≡ lane old k) (n : ℕ) (all : start + n ≡ end) where
  abbrev was : List Memo
  was = memos_of blocks

  abbrev now : List Memo
  now = memos_of (slice_set blocks q block)

  abbrev one : ℕ → Memo
  one i = does (memo_of was i) (i % 64)

  abbrev then_is : ℕ → Type 0
  then_is i = memo_of now i ≡ memo_of (done_all at n one was) i

  other_block : (i : ℕ) → i / 64 ≢ q → then_is i
  other_block i apart = elsewhere blocks q old block low is i apart
      ∙ sym (done_other at was one n i
      (λ m less e. apart (omega (arith, less, e, first, most, all))))

  other_lane : (i : ℕ) → i / 64 ≡ q → lane block (i % 64) ≡ lane old (i % 64) →
      ((m : ℕ) → m < n → after at m ≢ i) → then_is i
  other_lane i e same none = now_at blocks q old block low is i e
      ∙ same ∙ sym (was_at blocks q old block low is i e)
      ∙ sym (done_other at was one n i none)

  in_lanes : (i : ℕ) → i / 64 ≡ q → start ≤ i % 64 → i % 64 < end → then_is i
  in_lanes i e from to =
      let m = i % 64 - start in
      let low_m : m < n = omega (arith, from, to, all) in
      let i_is : after at m ≡ i = omega (arith, from, e, first) in
      let there_m : after at m < length was =
      omega (arith, i_is, e, low, length_all blocks) in
      now_at blocks q old block low is i e ∙ there (i % 64) from to
      ∙ ap (λ (memo : Memo). does memo (i % 64)) (sym (was_at blocks q old block low is i e))
      ∙ sym (subst (λ (j : ℕ). memo_of (done_all at n one was) j ≡ one j) i_is
      (done_there at was one n m low_m there_m))

  each : (i : ℕ) → then_is i
  each i = elim (cases_lt (i / 64) q) [
    | inl less ↦ other_block i (λ e. absurd (omega (arith, e, less)))
    | inr not_less ↦ elim (cases_lt q (i / 64)) [
      | inl more ↦ other_block i (λ e. absurd (omega (arith, e, more)))
      | inr not_more ↦
          let e : i / 64 ≡ q = omega (arith, not_less, not_more) in
          elim (cases_lt (i % 64) start) [
            | inl less ↦ other_lane i e (before (i % 64) less)
                (λ m _ same. absurd (omega (arith, same, less, e, first)))
            | inr from ↦ elim (cases_lt (i % 64) end) [
              | inl to ↦ in_lanes i e from to
              | inr past ↦ other_lane i e (later (i % 64) past)
                  (λ m fits same. absurd (omega (arith, fits, same, past, e, first, all)))
            ]
          ]
    ]
  ]

  pub row_done : memos_of (slice_set blocks q block)
      ≡ done_all at n (λ i. does (memo_of (memos_of blocks) i) (i % 64)) (memos_of blocks)
  row_done = same_memories now (done_all at n one was)
      (length_all (slice_set blocks q block)
      ∙ ap (λ (m : ℕ). 64 * m) (length-set blocks q block)
      ∙ sym (length_all blocks) ∙ sym (length_done at was one n)) each
