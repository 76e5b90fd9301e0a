-- Where a worker that fits stands.
use Rattle.std.proofs.Common.{◌≡◌, ℕ, zero, suc, ◌+◌, ◌-◌, ◌*◌, ◌^◌, ◌<◌, ◌≤◌}
use Rattle.std.proofs.Common.{Option, Some, None, IfSome, unwrap_or, inl, inr, arith}
use Rattle.std.proofs.Math.Nat.{pow-le-pow_right}
use Rattle.std.proofs.lemmas.Nat.{mod_below, pow_pos}
use Rattle.std.proofs.lemmas.Bool.{cases_lt}
use Rattle.pram_job.specs.Job.{JobData}
use Rattle.pram_words.proofs.Halvings.{digits, double}
use Rattle.pram_words.proofs.Numbering.{cases_form, form_wide}
use Rattle.pram_words.proofs.Ways.{way_depth}
use Rattle.pram_words.specs.Tree.{digits_of, depth_of, first_leaf_of}
use Rattle.pram_words.specs.Ways.{first_leaf_in, way_of}
use Rattle.pram_words.specs.Words.{LayoutData}
use Rattle.walkx.specs.Walk.{Walking, Fits, node_of}

-- a number has at least its depth's power
depth_low : (n : ℕ) → 1 ≤ n → 2 ^ depth_of n ≤ n
unfolding depth_of
depth_low n some = elim (cases_lt n (2 ^ 32)) [
  | inl small ↦ (let d = digits n small in by_digits (digits_of n) d.0 d.1)
  | inr large ↦ (let most : 2 ^ (digits_of n - 1) ≤ 2 ^ 31 =
      pow-le-pow_right {n = 2} (omega arith) {i = digits_of n - 1} {j = 31} (few n) in omega arith)
]
  where
    by_digits : (d : ℕ) → n < 2 ^ d → 2 ^ d ≤ 2 * n + 1 → 2 ^ (d - 1) ≤ n
    by_digits zero below above = omega arith
    by_digits (suc d) below above =
        let e = double d in
        let f : suc d - 1 ≡ d = omega arith in rw f (omega arith)

    few : (m : ℕ) → digits_of m - 1 ≤ 31
    few m = unfold digits_of in omega arith

-- the first leaf is a node in each tree
first_node : (y : LayoutData) (worker : ℕ) → 1 ≤ y.leaves →
    (1 ≤ first_leaf_in y worker) × (first_leaf_in y worker < 2 * y.leaves)
unfolding first_leaf_in
first_node y worker some = elim (cases_form y.form) [
  | inl e ↦ rw e (let below = mod_below worker y.leaves some in (omega arith, omega arith))
  | inr e ↦
      rw (form_wide y.form e.0 (first_leaf_of y.leaves worker)
      (way_of y worker (depth_of y.leaves)) e.1)
      (let way = way_depth y worker (depth_of y.leaves) in
      let low = depth_low y.leaves some in
      let pos = pow_pos (depth_of y.leaves) in (omega arith, omega arith))
]

pub node_range : (job : JobData) (y : LayoutData) (w : Walking) → 1 ≤ y.leaves → Fits job y w →
    (1 ≤ node_of y w) × (node_of y w < 2 * y.leaves)
node_range job y w some fits = by_node w.node fits.node
  where
    by_node : (o : Option ℕ) → IfSome o (λ n. (1 ≤ n) × (n < 2 * y.leaves)) →
        (1 ≤ unwrap_or o (first_leaf_in y w.number))
        × (unwrap_or o (first_leaf_in y w.number) < 2 * y.leaves)
    by_node None h = first_node y w.number some
    by_node (Some n) h = h
