-- The processors of a board's block have gone on as one, by what is remembered of them.
use Rattle.std.proofs.Common.{◌≡◌, ℕ, ◌+◌, ◌-◌, ◌*◌, ◌/◌, ◌<◌, ◌≤◌, nat_lt, List, length, slice_get}
use Rattle.std.proofs.Common.{Some, sym, subst, ◌∙◌, arith}
use Rattle.std.specs.Prelude.{max, slice_set}
use Rattle.std.proofs.lemmas.Bool.{lt-ltb}
use Rattle.pram_job.specs.Job.{JobData}
use Rattle.walk_memory.specs.declared.block.Block.{Block}
use Rattle.walk_memory.specs.declared.memo.Memo.{Memo}
use Rattle.walk_memory.specs.declared.span.Span.{Span}
use Rattle.walk_memory.specs.AsOne.{AllStay}
use Rattle.walk_memory.specs.Inner.Posts.{PostData}
use Rattle.walk_memory.specs.Lanes.{lane, memos_of}
use Rattle.walk_memory.specs.Memory.{gone_on}
use Rattle.walk_memory.specs.Rows.{RestIn}
use Rattle.walk_memory.specs.Together.{goes_as_far, gone_from}
use Rattle.walk_memory.specs.Blocks.{block_reach, has_rank, processor_at, reach_from_phase}
use Rattle.walk_memory.proofs.AsOne.{reach_is, stays_all}
use Rattle.walk_memory.proofs.Ways.{lanes_gone, ranks_all}

module _ (at : PostData) (blocks : List Block) (q : ℕ) (lanes : Span) (old block : Block)
    (job : JobData) (job_is : job ≡ at.job) (low : q < length blocks)
    (is : slice_get blocks q ≡ Some old) (q_is : q ≡ lanes.first / 64)
    (row : lanes.first ≡ 64 * (processor_at at.layout at.node 0 / 64))
    (start : lanes.first + lanes.start ≡ processor_at at.layout at.node 0)
    (ranks : (r : ℕ) → has_rank at.layout at.node r ≡ nat_lt r (lanes.end - lanes.start))
    (far : (k : ℕ) → lanes.start ≤ k → k < lanes.end →
    goes_as_far job (lanes.first + k) (lane old k) (lane block k))
    (before : (k : ℕ) → k < lanes.start → lane block k ≡ lane old k)
    (after : (k : ℕ) → lanes.end ≤ k → lane block k ≡ lane old k) where
  same : lanes.first ≡ 64 * q
  same = omega (arith, q_is, row)

  first : 64 * q + lanes.start ≡ processor_at at.layout at.node 0
  first = omega (arith, same, start)

  gone : (k : ℕ) → lanes.start ≤ k → k < lanes.end →
      goes_as_far at.job (64 * q + k) (lane old k) (lane block k)
  gone k from to =
      subst (λ (j : JobData). goes_as_far j (64 * q + k) (lane old k) (lane block k)) job_is
      (subst (λ (n : ℕ). goes_as_far job (n + k) (lane old k) (lane block k)) same (far k from to))

  pub row_far : gone_from at 0 (memos_of (slice_set blocks q block)) ≡ gone_from at 0 (memos_of blocks)
  row_far = lanes_gone at blocks q lanes.start lanes.end old block low is first ranks lanes.within gone
      before after

  abbrev now : List Memo
  now = memos_of (slice_set blocks q block)

  -- where none of them goes on from there
  module _ (stay : (k : ℕ) → lanes.start ≤ k → k < lanes.end →
      gone_on job (lanes.first + k) (lane block k) ≡ lane block k) where
    each_stays : (k : ℕ) → lanes.start ≤ k → k < lanes.end →
        gone_on at.job (64 * q + k) (lane block k) ≡ lane block k
    each_stays k from to =
        subst (λ (j : JobData). gone_on j (64 * q + k) (lane block k) ≡ lane block k) job_is
        (subst (λ (n : ℕ). gone_on job (n + k) (lane block k) ≡ lane block k) same (stay k from to))

    pub all_stay : AllStay at now
    all_stay = ranks_all at blocks q lanes.start lanes.end old block low is first ranks lanes.within
        gone before after (λ i m. gone_on at.job i m ≡ m) each_stays

    pub row_gone : now ≡ gone_from at 0 (memos_of blocks)
    row_gone = sym (stays_all at now all_stay) ∙ row_far

  module _ (phase reach : ℕ) (rest : RestIn job lanes phase reach block) where
    pub row_stay : AllStay at now
    row_stay = all_stay rest.stay

    pub row_reach : phase ≡ at.phase →
        max phase reach ≡ block_reach at.job at.layout at.node at.phase now
    row_reach phase_is =
        subst (λ (p : ℕ). max p reach ≡ block_reach at.job at.layout at.node at.phase now)
        (sym phase_is) (reach_is at now reach
        (ranks_all at blocks q lanes.start lanes.end old block low is first ranks lanes.within gone
        before after (λ i m. reach_from_phase at.phase m ≡ reach)
        (λ k from to. subst (λ (p : ℕ). reach_from_phase p (lane block k) ≡ reach) phase_is
        (rest.reaches k from to)))
        (subst (λ (j : JobData). reach ≤ 3 * j.steps) job_is rest.most)
        (ranks 0 ∙ lt-ltb 0 (lanes.end - lanes.start) (omega (arith, rest.some))))
