-- Processors of a block that do not stand together: each goes on as far as it can.
use Rattle.std.proofs.Common.{◌≡◌, ◌≢◌, ℕ, zero, suc, ◌+◌, ◌-◌, ◌<◌, ◌≤◌, true, List}
use Rattle.std.proofs.Common.{length, nat_lt, refl, sym, ap, subst, ◌∙◌}
use Rattle.std.proofs.Common.{inl, inr, arith}
use Rattle.std.specs.Prelude.{◌||◌, is_some, nat_le}
use Rattle.std.proofs.lemmas.Bool.{cases_Bool, cases_lt, lt-ltb}
use Rattle.pram_job.specs.Job.{JobData}
use Rattle.pram_words.specs.Words.{LayoutData, grain}
use Rattle.walk_memory.specs.declared.block.Block.{Block}
use Rattle.walk_memory.specs.declared.memo.Memo.{Memo}
use Rattle.walk_memory.specs.declared.span.Span.{Span}
use Rattle.walk_memory.specs.Apart.{GetAsFar}
use Rattle.walk_memory.specs.Lanes.{lane}
use Rattle.walk_memory.specs.Memory.{goes_alone, goes_on_alone, gone_on, has_stopped}
use Rattle.walk_memory.specs.Memory.{one_alone, steps_left}
use Rattle.walk_memory.specs.Blocks.{least_of, block_gone_on, has_rank, processor_at}
use Rattle.walk_memory.specs.Together.{goes_as_far}
use Rattle.walk_memory.proofs.AsFar.{not_due}
use Rattle.walk_memory.proofs.Ranks.{rank_parts}
use Rattle.walk_memory.proofs.GoingAlone.{last_stays}
use Rattle.walk_memory.proofs.Memories.{memo_past, set_past}

-- ---- one processor that has gone on as far as it can stays

module _ (job : JobData) (i : ℕ) where
  stays : (n : ℕ) (memo : Memo) → n ≡ suc (steps_left memo) →
      gone_on job i (goes_on_alone n job i memo) ≡ goes_on_alone n job i memo
  unfolding goes_on_alone
  stays zero memo few = absurd (omega (arith, few))
  stays (suc n) memo few = elim (cases_Bool (is_some memo.store || nat_le job.steps memo.step)) [
    | inl e ↦ rw e (rw e refl)
    | inr e ↦ elim (cases_Bool (has_stopped job memo.own)) [
      | inl s ↦ rw (s, e) (last_stays job i (record memo { step = job.steps })
          (suc (memo.settled + 64 - job.steps)) (omega arith))
      | inr s ↦ elim (cases_Bool (goes_alone job i memo)) [
        | inl g ↦ rw (g, s, e) (stays n (one_alone job i memo) (omega (
          arith,
          few,
          not_due job i memo s g,
        )))
        | inr g ↦ rw (g, s, e) (rw (g, s, e) refl)
      ]
    ]
  ]

  pub gone_stays : (memo : Memo) → gone_on job i (gone_on job i memo) ≡ gone_on job i memo
  gone_stays memo = stays (suc (steps_left memo)) memo refl

module _ (job : JobData) (i : ℕ) (before after : Memo) (is : after ≡ gone_on job i before) where
  pub went_far : goes_as_far job i before after
  went_far = ap (λ (m : Memo). gone_on job i m) is ∙ gone_stays job i before

  pub went_stays : gone_on job i after ≡ after
  went_stays = went_far ∙ sym is

-- ---- lanes

module _ (job : JobData) (lanes : Span) where
  pub as_far_start : (block : Block) → GetAsFar job lanes block block
  as_far_start block = record {
    far = λ k from to. refl;
    before = λ k low. refl;
    after = λ k high. refl;
  }

  pub as_far_more : (old mid new : Block) → GetAsFar job lanes old mid → GetAsFar job lanes mid new →
      GetAsFar job lanes old new
  as_far_more old mid new first more = record {
    far = λ k from to. more.far k from to ∙ first.far k from to;
    before = λ k low. more.before k low ∙ first.before k low;
    after = λ k high. more.after k high ∙ first.after k high;
  }

  -- one of them went on
  pub as_far_one : (k : ℕ) (old mid new : Block) → lanes.start ≤ k → k < lanes.end →
      GetAsFar job lanes old mid → goes_as_far job (lanes.first + k) (lane mid k) (lane new k) →
      ((j : ℕ) → j ≢ k → lane new j ≡ lane mid j) → GetAsFar job lanes old new
  as_far_one k old mid new low high first one others = as_far_more old mid new first (record {
    far = λ j from to. elim (cases_lt j k) [
      | inl less ↦ same j (others j (λ e. absurd (omega (arith, e, less))))
      | inr not_less ↦ elim (cases_lt k j) [
        | inl more ↦ same j (others j (λ e. absurd (omega (arith, e, more))))
        | inr not_more ↦
            let e : k ≡ j = omega (arith, not_less, not_more) in
            subst (λ (n : ℕ). goes_as_far job (lanes.first + n) (lane mid n) (lane new n)) e one
      ]
    ];
    before = λ j less. others j (λ e. absurd (omega (arith, e, less, low)));
    after = λ j most. others j (λ e. absurd (omega (arith, e, most, high)));
  })
    where
      same : (j : ℕ) → lane new j ≡ lane mid j →
          goes_as_far job (lanes.first + j) (lane mid j) (lane new j)
      same j e = ap (λ (m : Memo). gone_on job (lanes.first + j) m) e

  -- those before this lane have gone on as far as they can, and the others get there
  pub record HaveGone (k : ℕ) (old new : Block) : Type 0 where
    pub gone : (j : ℕ) → lanes.start ≤ j → j < k →
        lane new j ≡ gone_on job (lanes.first + j) (lane old j)
    pub far : (j : ℕ) → k ≤ j → j < lanes.end →
        goes_as_far job (lanes.first + j) (lane old j) (lane new j)
    pub before : (j : ℕ) → j < lanes.start → lane new j ≡ lane old j
    pub after : (j : ℕ) → lanes.end ≤ j → lane new j ≡ lane old j

  pub gone_start : (block : Block) → HaveGone lanes.start block block
  gone_start block = record {
    gone = λ j from to. absurd (omega (arith, from, to));
    far = λ j from to. refl;
    before = λ j low. refl;
    after = λ j high. refl;
  }

  -- this lane went on, too
  module _ (k next : ℕ) (is : next ≡ suc k) (low : lanes.start ≤ k) (high : k < lanes.end) where
    pub gone_next : (old new block : Block) → HaveGone k old new →
        lane block k ≡ gone_on job (lanes.first + k) (lane new k) →
        ((j : ℕ) → j ≢ k → lane block j ≡ lane new j) → HaveGone next old block
    gone_next old new block have one others = record {
      gone = λ j from to. elim (cases_lt j k) [
        | inl less ↦ others j (λ e. absurd (omega (arith, e, less))) ∙ have.gone j from less
        | inr not_less ↦
            let e : k ≡ j = omega (arith, not_less, to, is) in
            subst (λ (n : ℕ). lane block n ≡ gone_on job (lanes.first + n) (lane old n)) e
            (one ∙ have.far k (omega arith) high)
      ];
      far = λ j from to.
          ap (λ (m : Memo). gone_on job (lanes.first + j) m)
          (others j (λ e. absurd (omega (arith, e, from, is))))
          ∙ have.far j (omega (arith, from, is)) to;
      before = λ j less. others j (λ e. absurd (omega (arith, e, less, low))) ∙ have.before j less;
      after = λ j most. others j (λ e. absurd (omega (arith, e, most, high))) ∙ have.after j most;
    }

    -- it had nothing to go
    pub gone_rests : (old new : Block) → HaveGone k old new →
        gone_on job (lanes.first + k) (lane new k) ≡ lane new k → HaveGone next old new
    gone_rests old new have stays = gone_next old new new have (sym stays) (λ j other. refl)

  -- some of those from this lane on got on their way
  pub gone_on_way : (k : ℕ) (old mid new : Block) (from : Span) → from.first ≡ lanes.first →
      from.start ≡ k → from.end ≡ lanes.end → lanes.start ≤ k → HaveGone k old mid →
      GetAsFar job from mid new → HaveGone k old new
  gone_on_way k old mid new from first start end low have way = record {
    gone = λ j least less. way.before j (omega (arith, start, less)) ∙ have.gone j least less;
    far = λ j least less.
        subst (λ (n : ℕ). goes_as_far job (n + j) (lane mid j) (lane new j)) first
        (way.far j (omega (arith, start, least)) (omega (arith, end, less))) ∙ have.far j least less;
    before = λ j less. way.before j (omega (arith, start, less, low)) ∙ have.before j less;
    after = λ j most. way.after j (omega (arith, end, most)) ∙ have.after j most;
  }

-- ---- what is remembered of them

-- without memory none goes on
pub none_goes_on : (job : JobData) (y : LayoutData) (n more rank : ℕ) (memory : List Memo) →
    length memory ≤ processor_at y n 0 → block_gone_on more job y n rank memory ≡ memory
none_goes_on job y n zero rank memory past = refl
none_goes_on job y n (suc more) rank memory past = elim (cases_Bool (has_rank y n rank)) [
  | inl e ↦ rw e (ap (block_gone_on more job y n (suc rank))
      (sym (set_past memory (processor_at y n rank) _ (omega (arith, past))))
      ∙ none_goes_on job y n more (suc rank) memory past)
  | inr e ↦ rw e refl
]

-- and nothing is known
pub none_reached : (most phase more i : ℕ) (memory : List Memo) → 0 < more → length memory ≤ i →
    0 ≡ least_of most phase more i memory
none_reached most phase zero i memory some past = absurd (omega (arith, some))
none_reached most phase (suc more) i memory some past =
    rw (memo_past memory i past) (elim (cases_Bool (nat_le 0 phase)) [
      | inl e ↦ rw e (omega arith)
      | inr e ↦ rw e (omega arith)
    ])

-- a block's processors are no more than there may be
pub few_ranks : (y : LayoutData) (n len : ℕ) →
    ((rank : ℕ) → has_rank y n rank ≡ nat_lt rank len) → len ≤ grain y
few_ranks y n len ranks = elim (cases_lt (grain y) len) [
  | inl less ↦ absurd (omega (
    arith,
    (rank_parts y n (grain y) (ranks (grain y) ∙ lt-ltb (grain y) len less)).0,
  ))
  | inr least ↦ least
]

-- nor more than the job has
pub lane_below : (y : LayoutData) (n first start end k : ℕ) → first + start ≡ processor_at y n 0 →
    ((rank : ℕ) → has_rank y n rank ≡ nat_lt rank (end - start)) → start ≤ k → k < end →
    first + k < y.procs
lane_below y n first start end k at ranks from to =
    let there : has_rank y n (k - start) ≡ true =
    ranks (k - start) ∙ lt-ltb (k - start) (end - start) (omega (arith, from, to)) in
    omega (arith, from, at, (rank_parts y n (k - start) there).1)
