-- A block that stands together: how it stays, and how far it has nothing to do.
use Rattle.std.proofs.Common.{◌≡◌, ℕ, zero, suc, ◌-◌, ◌*◌, ◌<◌, ◌≤◌, true, List, refl, sym, ap, inl}
use Rattle.std.proofs.Common.{inr, arith}
use Rattle.std.specs.Prelude.{min, max}
use Rattle.std.proofs.lemmas.Bool.{cases_Bool}
use Rattle.pram_words.specs.Words.{LayoutData, grain}
use Rattle.walk_memory.specs.declared.memo.Memo.{Memo}
use Rattle.walk_memory.specs.AsOne.{AllStay, memo_at}
use Rattle.walk_memory.specs.Inner.Posts.{PostData}
use Rattle.walk_memory.specs.Together.{gone_from}
use Rattle.walk_memory.specs.Blocks.{block_gone_on, block_reach, has_rank, least_reach}
use Rattle.walk_memory.specs.Blocks.{processor_at, reach_from_phase}
use Rattle.walk_memory.proofs.Ranks.{rank_parts}
use Rattle.walk_memory.proofs.Memories.{memo_again}

module _ (post : PostData) (memory : List Memo) where
  abbrev y : LayoutData
  y = post.layout

  abbrev n : ℕ
  n = post.node

  -- all stay
  none_goes_on : (more rank : ℕ) → AllStay post memory →
      block_gone_on more post.job y n rank memory ≡ memory
  none_goes_on zero rank stay = refl
  none_goes_on (suc more) rank stay = elim (cases_Bool (has_rank y n rank)) [
    | inl e ↦ rw e (rw (stay rank e, memo_again memory (processor_at y n rank))
        (none_goes_on more (suc rank) stay))
    | inr e ↦ rw e refl
  ]

  pub stays_all : AllStay post memory → gone_from post 0 memory ≡ memory
  stays_all stay = none_goes_on (grain y - 0) 0 stay

  -- how far
  module _ (r : ℕ) (same : (rank : ℕ) → has_rank y n rank ≡ true →
      reach_from_phase post.phase (memo_at post memory rank) ≡ r) (most : r ≤ 3 * post.job.steps) where
    not_less : (more rank : ℕ) → min r (least_reach more post.job y n post.phase rank memory) ≡ r
    not_less zero rank = omega (arith, most)
    not_less (suc more) rank = elim (cases_Bool (has_rank y n rank)) [
      | inl e ↦ rw (e, same rank e) (omega (arith, not_less more (suc rank)))
      | inr e ↦ rw e (omega (arith, most))
    ]

    pub reach_is : has_rank y n 0 ≡ true → max post.phase r ≡ block_reach post.job y n post.phase memory
    reach_is there = ap (max post.phase) (sym (from (grain y) (rank_parts y n 0 there).0))
      where
        from : (g : ℕ) → 0 < g → least_reach g post.job y n post.phase 0 memory ≡ r
        from zero none = absurd (omega (arith, none))
        from (suc more) some = rw (there, same 0 there) (not_less more 1)
