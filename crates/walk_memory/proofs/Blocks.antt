-- How far the processors of a block have nothing to do.
use Rattle.std.proofs.Common.{◌≡◌, ℕ, zero, suc, ◌+◌, ◌-◌, ◌*◌, ◌≤◌, nat_lt, List, refl, sym, ap}
use Rattle.std.proofs.Common.{◌∙◌, arith}
use Rattle.std.specs.Prelude.{min, max}
use Rattle.std.proofs.lemmas.Bool.{le-ltb, lt-ltb}
use Rattle.pram_job.specs.Job.{JobData}
use Rattle.pram_words.specs.Words.{LayoutData, grain}
use Rattle.walk_memory.specs.declared.memo.Memo.{Memo}
use Rattle.walk_memory.specs.Memory.{memo_of}
use Rattle.walk_memory.specs.Blocks.{least_of, block_reach, has_rank, least_reach, processor_at}
use Rattle.walk_memory.specs.Blocks.{reach_from_phase}

min_swap : (a b c : ℕ) → min a (min b c) ≡ min b (min a c)
min_swap a b c = omega arith

pub least_more : (q : ℕ) (memory : List Memo) (most r n i : ℕ) →
    least_of (min most r) q n i memory ≡ min r (least_of most q n i memory)
least_more q memory most r zero i = omega arith
least_more q memory most r (suc n) i =
    ap (min (reach_from_phase q (memo_of memory i))) (least_more q memory most r n (suc i))
    ∙ min_swap (reach_from_phase q (memo_of memory i)) r (least_of most q n (suc i) memory)

pub least_next : (q : ℕ) (memory : List Memo) (least r n m i j : ℕ) → n ≡ suc m → j ≡ suc i →
    r ≡ reach_from_phase q (memo_of memory i) →
    least_of (min least r) q m j memory ≡ least_of least q n i memory
least_next q memory least r n m i j is next at =
    rw (is, next) (least_more q memory least r m (suc i) ∙ rw at refl)

module _ (job : JobData) (y : LayoutData) (n q len : ℕ) (memory : List Memo)
    (ranks : (rank : ℕ) → has_rank y n rank ≡ nat_lt rank len) where
  least_from : (fuel rank more : ℕ) → more + rank ≡ len → more ≤ fuel →
      least_reach fuel job y n q rank memory
      ≡ least_of (3 * job.steps) q more (processor_at y n rank) memory
  least_from zero rank zero is few = refl
  least_from zero rank (suc more) is few = absurd (omega (arith, few))
  least_from (suc fuel) rank zero is few =
      rw (ranks rank, le-ltb rank len (omega (arith, is))) refl
  least_from (suc fuel) rank (suc more) is few =
      rw (ranks rank, lt-ltb rank len (omega (arith, is)))
      (ap (min (reach_from_phase q (memo_of memory (processor_at y n rank))))
      (least_from fuel (suc rank) more (omega (arith, is)) (omega (arith, few))
      ∙ ap (λ (i : ℕ). least_of (3 * job.steps) q more i memory) next))
    where
      next : processor_at y n (suc rank) ≡ suc (processor_at y n rank)
      next = omega arith

  pub block_is : (first end : ℕ) (memos : List Memo) → len ≤ grain y → first ≡ processor_at y n 0 →
      end ≡ first + len → memos ≡ memory →
      max q (least_of (3 * job.steps) q (end - first) first memos) ≡ block_reach job y n q memory
  block_is first end memos few at there is =
      let e : end - first ≡ len = omega (arith, there) in
      rw (e, at, is) (ap (max q) (sym (least_from (grain y) 0 len (omega arith) few)))
