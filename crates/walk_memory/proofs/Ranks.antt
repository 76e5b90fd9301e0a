-- What a rank in a block says.
use Rattle.std.proofs.Common.{◌≡◌, ℕ, ◌<◌, ◌≤◌, nat_lt, IsTrue, true, refl, sym, ◌∙◌, inl, inr}
use Rattle.std.proofs.Common.{arith}
use Rattle.std.proofs.lemmas.Bool.{cases_Bool, cases_lt, lt-ltb, ltb-true}
use Rattle.pram_words.specs.Words.{LayoutData, grain}
use Rattle.walk_memory.specs.Blocks.{has_rank, processor_at}
use Rattle.walk_memory.specs.Inner.Posts.{IsLeafPost, PostData}

pub rank_parts : (y : LayoutData) (n rank : ℕ) → IsTrue (has_rank y n rank) →
    (rank < grain y) × (processor_at y n rank < y.procs)
rank_parts y n rank there = elim (cases_Bool (nat_lt rank (grain y))) [
  | inl e ↦ (let other : nat_lt (processor_at y n rank) y.procs ≡ true = rw e at there in
      (ltb-true rank (grain y) e, ltb-true (processor_at y n rank) y.procs other))
  | inr e ↦ absurd (let f = rw e at there in cc)
]

pub rank_there : (y : LayoutData) (n rank : ℕ) → rank < grain y → processor_at y n rank < y.procs →
    has_rank y n rank ≡ true
rank_there y n rank below proc =
    rw (lt-ltb rank (grain y) below, lt-ltb (processor_at y n rank) y.procs proc) refl

-- the leaf's rank is one of its block's, which is no longer than a grain
module _ (at : PostData) (len : ℕ) (leaf : IsLeafPost at)
    (ranks : (rank : ℕ) → has_rank at.layout at.node rank ≡ nat_lt rank len) where
  pub below_length : at.rank < len
  below_length = ltb-true at.rank len (sym (ranks at.rank)
      ∙ rank_there at.layout at.node at.rank leaf.rank leaf.last)

  pub within_grain : len ≤ grain at.layout
  within_grain = elim (cases_lt (grain at.layout) len) [
    | inl less ↦ absurd (omega (
      arith,
      (rank_parts at.layout at.node (grain at.layout)
          (ranks (grain at.layout) ∙ lt-ltb (grain at.layout) len less)).0,
    ))
    | inr least ↦ least
  ]
