-- The way from a node to the root.
use Rattle.std.proofs.Common.{◌≡◌, ℕ, zero, suc, ◌/◌, ◌<◌, ◌≤◌, true}
use Rattle.std.proofs.Common.{false, ◌≢◌, refl, sym, inl, inr, arith}
use Rattle.std.proofs.lemmas.Bool.{eq-eqb, ne_eqb, cases_eq}
use Rattle.walkx.proofs.BoundWeight.{lies_on_way}

-- Zero has no way but itself.
none_from_zero : (more m : ℕ) → 1 ≤ m → lies_on_way more m 0 ≡ false
unfolding lies_on_way
none_from_zero zero m some = refl
none_from_zero (suc more) m some = rw (ne_eqb m 0 (λ e. omega arith)) (none_from_zero more m some)

-- A way that is long enough has all nodes.
enough : (k j m n : ℕ) → n ≤ k → n ≤ j → 1 ≤ m → lies_on_way k m n ≡ lies_on_way j m n
unfolding lies_on_way
enough zero j m n a b some = let e : n ≡ 0 = omega arith in rw e (sym (none_from_zero j m some))
enough (suc k) zero m n a b some =
    let e : n ≡ 0 = omega arith in rw e (none_from_zero (suc k) m some)
enough (suc k) (suc j) m n a b some = elim (cases_eq m n) [
  | inl e ↦ rw (eq-eqb m n e) refl
  | inr e ↦ rw (ne_eqb m n e) (enough k j m (n / 2) (omega arith) (omega arith) some)
]

-- a node lies on its own way
pub own_way : (n : ℕ) → 1 ≤ n → lies_on_way n n n ≡ true
unfolding lies_on_way
own_way zero some = absurd (omega arith)
own_way (suc n) some = rw (eq-eqb (suc n) (suc n) refl) refl

-- no node lies on the way of a lesser one
pub not_below : (more m n : ℕ) → n < m → lies_on_way more m n ≡ false
unfolding lies_on_way
not_below zero m n less = refl
not_below (suc more) m n less =
    rw (ne_eqb m n (λ e. omega arith)) (not_below more m (n / 2) (omega arith))

-- any other node lies on a node's way if it lies on its parent's
pub way_up : (n m : ℕ) → 1 ≤ n → 1 ≤ m → m ≢ n → lies_on_way n m n ≡ lies_on_way (n / 2) m (n / 2)
unfolding lies_on_way
way_up zero m some is ne = absurd (omega arith)
way_up (suc n) m some is ne =
    rw (ne_eqb m (suc n) ne) (enough n (suc n / 2) m (suc n / 2) (omega arith) (omega arith) is)
