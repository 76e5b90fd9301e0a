-- Processors of a block have gone on, each by some steps, and the block gets as far as before.
use Rattle.std.proofs.Common.{◌≡◌, ◌≢◌, ℕ, zero, suc, ◌+◌, ◌-◌, ◌*◌, ◌/◌, ◌%◌, ◌^◌, ◌<◌, ◌≤◌, true}
use Rattle.std.proofs.Common.{false, List, [], ◌∷◌, length, nat_lt, slice_get, Option, Some, refl}
use Rattle.std.proofs.Common.{sym, ap, subst, ◌∙◌, inl, inr, arith}
use Rattle.std.specs.Prelude.{slice_set}
use Rattle.std.proofs.Math.ListN.{length-set}
use Rattle.std.proofs.lemmas.Bool.{cases_Bool, cases_lt, lt-ltb, ltb-true}
use Rattle.pram_job.specs.Job.{JobData}
use Rattle.pram_words.specs.Words.{IsGrain, LayoutData, grain}
use Rattle.pram_words.proofs.Halvings.{exponents}
use Rattle.walk_memory.specs.declared.block.Block.{Block}
use Rattle.walk_memory.specs.declared.memo.Memo.{Memo}
use Rattle.walk_memory.specs.Inner.Posts.{PostData}
use Rattle.walk_memory.specs.Lanes.{lane, lane_in, memos_of}
use Rattle.walk_memory.specs.Memory.{gone_on, memo_of}
use Rattle.walk_memory.specs.Together.{goes_as_far, gone_from}
use Rattle.walk_memory.specs.Blocks.{block_gone_on, has_rank, processor_at}
use Rattle.walk_memory.proofs.AsFar.{set_there}
use Rattle.walk_memory.proofs.Ranks.{rank_parts, rank_there}
use Rattle.walk_memory.proofs.Lanes.{get_other, get_same, length_all, memo_of_all}
use Rattle.walk_memory.proofs.Memories.{memo_other, memo_past}

-- two memories of one length that know the same of each
pub same_memories : (xs ys : List Memo) → length xs ≡ length ys →
    ((i : ℕ) → memo_of xs i ≡ memo_of ys i) → xs ≡ ys
same_memories [] [] long each = refl
same_memories [] (y ∷ ys) long each = absurd (omega (arith, long))
same_memories (x ∷ xs) [] long each = absurd (omega (arith, long))
same_memories (x ∷ xs) (y ∷ ys) long each =
    ap (λ (m : Memo). m ∷ xs) (each 0)
    ∙ ap (λ (memos : List Memo). y ∷ memos)
    (same_memories xs ys (omega (arith, long)) (λ i. each (suc i)))

long_set : (memory : List Memo) (i : ℕ) (m : Memo) → length (slice_set memory i m) ≡ length memory
long_set memory i m = length-set memory i m

module _ (job : JobData) (y : LayoutData) (n : ℕ) where
  -- those of a rank from this one on have gone on by some steps, and the others are as they were
  record HaveGone (rank : ℕ) (before after : List Memo) : Type 0 where
    long : length after ≡ length before
    gone : (r : ℕ) → rank ≤ r → has_rank y n r ≡ true → goes_as_far job (processor_at y n r)
        (memo_of before (processor_at y n r)) (memo_of after (processor_at y n r))
    others : (i : ℕ) → ((r : ℕ) → rank ≤ r → has_rank y n r ≡ true → processor_at y n r ≢ i) →
        memo_of after i ≡ memo_of before i

  none_later : (rank r : ℕ) → has_rank y n rank ≡ false → rank ≤ r → has_rank y n r ≡ true → ⊥
  none_later rank r none low there =
      let parts = rank_parts y n r there in
      let here : has_rank y n rank ≡ true =
      rank_there y n rank (omega (arith, low, parts.0)) (omega (arith, low, parts.1)) in
      absurd (let same = sym here ∙ none in cc)

  abbrev went_on : ℕ → List Memo → List Memo
  went_on rank memory = slice_set memory (processor_at y n rank)
      (gone_on job (processor_at y n rank) (memo_of memory (processor_at y n rank)))

  -- what is then known of the one that went on
  went_there : (rank : ℕ) (before after : List Memo) → length after ≡ length before →
      goes_as_far job (processor_at y n rank) (memo_of before (processor_at y n rank))
      (memo_of after (processor_at y n rank)) →
      memo_of (went_on rank after) (processor_at y n rank)
      ≡ memo_of (went_on rank before) (processor_at y n rank)
  went_there rank before after long far = elim (cases_lt (processor_at y n rank) (length before)) [
    | inl low ↦ set_there after (processor_at y n rank) _ (omega (arith, low, long))
        ∙ (far ∙ sym (set_there before (processor_at y n rank) _ low))
    | inr past ↦ memo_past (went_on rank after) (processor_at y n rank)
        (omega (
          arith,
          past,
          long,
          long_set after (processor_at y n rank)
              (gone_on job (processor_at y n rank) (memo_of after (processor_at y n rank))),
        ))
        ∙ sym (memo_past (went_on rank before) (processor_at y n rank)
        (omega (
          arith,
          past,
          long_set before (processor_at y n rank)
              (gone_on job (processor_at y n rank) (memo_of before (processor_at y n rank))),
        )))
  ]

  -- once that of the rank has gone on as far as it can
  one_gone : (rank : ℕ) (before after : List Memo) → has_rank y n rank ≡ true →
      HaveGone rank before after → HaveGone (suc rank) (went_on rank before) (went_on rank after)
  one_gone rank before after there have = record {
    long = long_set after p _ ∙ (have.long ∙ sym (long_set before p _));
    gone = λ r low e.
        let later : p ≢ processor_at y n r = λ same. absurd (omega (arith, same, low)) in
        subst (λ (m : Memo). goes_as_far job (processor_at y n r) m
        (memo_of (went_on rank after) (processor_at y n r)))
        (sym (memo_other before p (processor_at y n r) _ later))
        (subst (λ (m : Memo). goes_as_far job (processor_at y n r)
        (memo_of before (processor_at y n r)) m)
        (sym (memo_other after p (processor_at y n r) _ later))
        (have.gone r (omega (arith, low)) e));
    others = λ i none. elim (cases_lt i p) [
      | inl less ↦ apart i (λ e. absurd (omega (arith, e, less))) none
      | inr not_less ↦ elim (cases_lt p i) [
        | inl more ↦ apart i (λ e. absurd (omega (arith, e, more))) none
        | inr not_more ↦
            let same : p ≡ i = omega (arith, not_less, not_more) in
            subst (λ (k : ℕ). memo_of (went_on rank after) k ≡ memo_of (went_on rank before) k)
            same (went_there rank before after have.long (have.gone rank (omega arith) there))
      ]
    ];
  }
    where
      p : ℕ
      p = processor_at y n rank

      apart : (i : ℕ) → p ≢ i →
          ((r : ℕ) → suc rank ≤ r → has_rank y n r ≡ true → processor_at y n r ≢ i) →
          memo_of (went_on rank after) i ≡ memo_of (went_on rank before) i
      apart i other none =
          memo_other after p i _ other
          ∙ (have.others i (λ r low e same. elim (cases_lt rank r) [
            | inl less ↦ none r (omega (arith, less)) e same
            | inr not_less ↦ other (let one : rank ≡ r = omega (arith, low, not_less) in
                ap (processor_at y n) one ∙ same)
          ])
          ∙ sym (memo_other before p i _ other))

  none_gone : (rank : ℕ) (before after : List Memo) →
      ((r : ℕ) → rank ≤ r → has_rank y n r ≡ true → ⊥) → HaveGone rank before after → after ≡ before
  none_gone rank before after none have = same_memories after before have.long
      (λ i. have.others i (λ r low e. absurd (none r low e)))

  all_gone : (more rank : ℕ) (before after : List Memo) → grain y ≤ rank + more →
      HaveGone rank before after →
      block_gone_on more job y n rank after ≡ block_gone_on more job y n rank before
  all_gone zero rank before after last have = none_gone rank before after
      (λ r low e. absurd (omega (arith, low, last, (rank_parts y n r e).0))) have
  all_gone (suc more) rank before after last have = elim (cases_Bool (has_rank y n rank)) [
    | inl e ↦ rw e (all_gone more (suc rank) (went_on rank before) (went_on rank after)
        (omega (arith, last)) (one_gone rank before after e have))
    | inr e ↦ rw e (none_gone rank before after (λ r low there. none_later rank r e low there) have)
  ]

-- what is known of each, where a block is now another
module _ (blocks : List Block) (q : ℕ) (old block : Block) (low : q < length blocks)
    (is : slice_get blocks q ≡ Some old) where
  pub now_at : (i : ℕ) → i / 64 ≡ q → memo_of (memos_of (slice_set blocks q block)) i ≡ lane block (i % 64)
  now_at i e = memo_of_all (slice_set blocks q block) i
      ∙ ap (λ (o : Option Block). lane_in o (i % 64))
      (ap (slice_get (slice_set blocks q block)) e ∙ get_same blocks q block low)

  pub was_at : (i : ℕ) → i / 64 ≡ q → memo_of (memos_of blocks) i ≡ lane old (i % 64)
  was_at i e = memo_of_all blocks i
      ∙ ap (λ (o : Option Block). lane_in o (i % 64)) (ap (slice_get blocks) e ∙ is)

  pub elsewhere : (i : ℕ) → i / 64 ≢ q →
      memo_of (memos_of (slice_set blocks q block)) i ≡ memo_of (memos_of blocks) i
  elsewhere i other = memo_of_all (slice_set blocks q block) i
      ∙ (ap (λ (o : Option Block). lane_in o (i % 64)) (get_other blocks q (i / 64) block other)
      ∙ sym (memo_of_all blocks i))

-- the lanes of a board's block in a block of 64 have gone on
module _ (at : PostData) (blocks : List Block) (q start end : ℕ) (old block : Block)
    (low : q < length blocks) (is : slice_get blocks q ≡ Some old)
    (first : 64 * q + start ≡ processor_at at.layout at.node 0)
    (ranks : (r : ℕ) → has_rank at.layout at.node r ≡ nat_lt r (end - start)) (most : end ≤ 64)
    (gone : (k : ℕ) → start ≤ k → k < end →
    goes_as_far at.job (64 * q + k) (lane old k) (lane block k))
    (before : (k : ℕ) → k < start → lane block k ≡ lane old k)
    (after : (k : ℕ) → end ≤ k → lane block k ≡ lane old k) where
  rank_goes : (r : ℕ) → has_rank at.layout at.node r ≡ true →
      goes_as_far at.job (processor_at at.layout at.node r)
      (memo_of (memos_of blocks) (processor_at at.layout at.node r))
      (memo_of (memos_of (slice_set blocks q block)) (processor_at at.layout at.node r))
  rank_goes r there =
      let i = processor_at at.layout at.node r in
      let less : r < end - start = ltb-true r (end - start) (sym (ranks r) ∙ there) in
      let here : i / 64 ≡ q = omega (arith, first, less, most) in
      let k : i % 64 ≡ start + r = omega (arith, first, less, most) in
      let same : 64 * q + i % 64 ≡ i = omega (arith, first, k) in
      subst (λ (m : Memo). goes_as_far at.job i m (memo_of (memos_of (slice_set blocks q block)) i))
      (sym (was_at blocks q old block low is i here))
      (subst (λ (m : Memo). goes_as_far at.job i (lane old (i % 64)) m) (sym (now_at blocks q old block low is i here))
      (subst (λ (j : ℕ). goes_as_far at.job j (lane old (i % 64)) (lane block (i % 64))) same
      (gone (i % 64) (omega (arith, k)) (omega (arith, k, less)))))

  rank_stays : (i : ℕ) → ((r : ℕ) → 0 ≤ r → has_rank at.layout at.node r ≡ true →
      processor_at at.layout at.node r ≢ i) →
      memo_of (memos_of (slice_set blocks q block)) i ≡ memo_of (memos_of blocks) i
  rank_stays i none = elim (cases_lt (i / 64) q) [
    | inl less ↦ elsewhere blocks q old block low is i (λ e. absurd (omega (arith, e, less)))
    | inr not_less ↦ elim (cases_lt q (i / 64)) [
      | inl more ↦ elsewhere blocks q old block low is i (λ e. absurd (omega (arith, e, more)))
      | inr not_more ↦
          let e : i / 64 ≡ q = omega (arith, not_less, not_more) in
          now_at blocks q old block low is i e ∙ (stays e ∙ sym (was_at blocks q old block low is i e))
    ]
  ]
    where
      stays : i / 64 ≡ q → lane block (i % 64) ≡ lane old (i % 64)
      stays e = elim (cases_lt (i % 64) start) [
        | inl less ↦ before (i % 64) less
        | inr not_less ↦ elim (cases_lt (i % 64) end) [
          | inl inside ↦
              let r : (i % 64 - start) < end - start = omega (arith, not_less, inside) in
              let is : processor_at at.layout at.node (i % 64 - start) ≡ i =
              omega (arith, first, e, not_less) in
              absurd (none (i % 64 - start) (omega arith)
              (ranks (i % 64 - start) ∙ lt-ltb (i % 64 - start) (end - start) r) is)
          | inr past ↦ after (i % 64) past
        ]
      ]

  pub lanes_gone : gone_from at 0 (memos_of (slice_set blocks q block)) ≡ gone_from at 0 (memos_of blocks)
  lanes_gone = all_gone at.job at.layout at.node (grain at.layout - 0) 0 (memos_of blocks)
      (memos_of (slice_set blocks q block)) (omega arith) (record {
        long = length_all (slice_set blocks q block)
            ∙ (ap (λ (m : ℕ). 64 * m) (length-set blocks q block) ∙ sym (length_all blocks));
        gone = λ r none there. rank_goes r there;
        others = λ i none. rank_stays i none;
      })

  -- what holds of each lane holds of what is known of each processor
  pub ranks_all : (P : ℕ → Memo → Type 0) →
      ((k : ℕ) → start ≤ k → k < end → P (64 * q + k) (lane block k)) →
      (r : ℕ) → has_rank at.layout at.node r ≡ true → P (processor_at at.layout at.node r)
      (memo_of (memos_of (slice_set blocks q block)) (processor_at at.layout at.node r))
  ranks_all P each r there =
      let i = processor_at at.layout at.node r in
      let less : r < end - start = ltb-true r (end - start) (sym (ranks r) ∙ there) in
      let here : i / 64 ≡ q = omega (arith, first, less, most) in
      let k : i % 64 ≡ start + r = omega (arith, first, less, most) in
      let same : 64 * q + i % 64 ≡ i = omega (arith, first, k) in
      subst (λ (m : Memo). P i m) (sym (now_at blocks q old block low is i here))
      (subst (λ (j : ℕ). P j (lane block (i % 64))) same
      (each (i % 64) (omega (arith, k)) (omega (arith, k, less))))

-- ---- a board's block lies within one row of 64

by_power : (g m k : ℕ) → k < 7 → g ≡ 2 ^ k → (g * m) % 64 + g ≤ 64
by_power g m zero low e = subst (λ (x : ℕ). (x * m) % 64 + x ≤ 64) (sym e) (omega arith)
by_power g m (suc zero) low e = subst (λ (x : ℕ). (x * m) % 64 + x ≤ 64) (sym e) (omega arith)
by_power g m (suc (suc zero)) low e =
    subst (λ (x : ℕ). (x * m) % 64 + x ≤ 64) (sym e) (omega arith)
by_power g m (suc (suc (suc zero))) low e =
    subst (λ (x : ℕ). (x * m) % 64 + x ≤ 64) (sym e) (omega arith)
by_power g m (suc (suc (suc (suc zero)))) low e =
    subst (λ (x : ℕ). (x * m) % 64 + x ≤ 64) (sym e) (omega arith)
by_power g m (suc (suc (suc (suc (suc zero))))) low e =
    subst (λ (x : ℕ). (x * m) % 64 + x ≤ 64) (sym e) (omega arith)
by_power g m (suc (suc (suc (suc (suc (suc zero)))))) low e =
    subst (λ (x : ℕ). (x * m) % 64 + x ≤ 64) (sym e) (omega arith)
by_power g m (suc (suc (suc (suc (suc (suc (suc k))))))) low e = absurd (omega (arith, low))

pub within_row : (y : LayoutData) (n : ℕ) → IsGrain (grain y) →
    processor_at y n 0 % 64 + grain y ≤ 64
within_row y n is =
    let small : is.0.0 < 7 = exponents is.0.0 7 (omega (arith, is.0.1, is.1)) in
    let first : processor_at y n 0 ≡ grain y * (n - y.leaves) = omega arith in
    rw first (by_power (grain y) (n - y.leaves) is.0.0 small is.0.1)
