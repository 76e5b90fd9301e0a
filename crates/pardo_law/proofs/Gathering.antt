-- What is gathered from step to step, or from line to line.
use Rattle.std.proofs.Common.{◌≡◌, ◌≢◌, ℕ, zero, suc, ◌+◌, ◌-◌, ◌<◌, ◌≤◌, Bool, true, false}
use Rattle.std.proofs.Common.{refl, sym, ap, ◌∙◌, subst, ⊎_elim, arith}
use Rattle.std.specs.Prelude.{count_by}
use Rattle.std.specs.Prelude.{if◌then◌else◌}
use Rattle.std.specs.List.{range_with_len}
use Rattle.std.proofs.lemmas.Bool.{cases_eq}
use Rattle.std.proofs.lemmas.List.Sums.{sum_by-cons}

-- ---- how many of some numbers

count_cons : (p : ℕ → Bool) (a n : ℕ) → count_by p (range_with_len a (suc n))
    ≡ (if p a then 1 else 0) + count_by p (range_with_len (a + 1) n)
count_cons p a n = sum_by-cons (λ i. if p i then 1 else 0) a (range_with_len (a + 1) n)

module _ (p q : ℕ → Bool) where
  count_from : (a n : ℕ) → ((i : ℕ) → i < n → p (a + i) ≡ q (a + i)) →
      count_by p (range_with_len a n) ≡ count_by q (range_with_len a n)
  count_from a zero same = refl
  count_from a (suc n) same =
      let first : p a ≡ q a =
      (let e : a + 0 ≡ a = omega arith in subst (λ i. p i ≡ q i) e (same 0 (omega arith))) in
      let rest = count_from (a + 1) n (λ i lt.
      let e : a + suc i ≡ a + 1 + i = omega arith in
      subst (λ k. p k ≡ q k) e (same (suc i) (omega arith))) in
      let bits : (if p a then 1 else 0) ≡ (if q a then 1 else 0) =
      ap (λ (t : Bool). if t then 1 else 0) first in
      count_cons p a n ∙ ap (λ m. m + count_by p (range_with_len (a + 1) n)) bits
      ∙ ap (λ m. (if q a then 1 else 0) + m) rest ∙ sym (count_cons q a n)

  pub count_same : (n : ℕ) → ((i : ℕ) → i < n → p i ≡ q i) →
      count_by p (range_with_len 0 n) ≡ count_by q (range_with_len 0 n)
  count_same n same = count_from 0 n (λ i lt.
      let e : i ≡ 0 + i = omega arith in subst (λ k. p k ≡ q k) e (same i lt))

count_nothing : (a n : ℕ) → count_by (λ (i : ℕ). false) (range_with_len a n) ≡ 0
count_nothing a zero = refl
count_nothing a (suc n) =
    count_cons (λ (i : ℕ). false) a n ∙ ap (λ m. 0 + m) (count_nothing (a + 1) n)

pub count_none : (p : ℕ → Bool) (n : ℕ) → ((i : ℕ) → i < n → p i ≡ false) →
    count_by p (range_with_len 0 n) ≡ 0
count_none p n none = count_same p (λ i. false) n none ∙ count_nothing 0 n

count_some_from : (p : ℕ → Bool) (a n i : ℕ) → i < n → p (a + i) ≡ true →
    0 < count_by p (range_with_len a n)
count_some_from p a zero i lt is = absurd (omega arith)
count_some_from p a (suc n) zero lt is =
    let here : a + 0 ≡ a = omega arith in
    let f : (if p a then 1 else 0) ≡ 1 =
    ap (λ (t : Bool). if t then 1 else 0) (subst (λ k. p k ≡ true) here is) in
    subst (λ m. 0 < m) (sym (count_cons p a n
    ∙ ap (λ m. m + count_by p (range_with_len (a + 1) n)) f)) (omega arith)
count_some_from p a (suc n) (suc i) lt is =
    let there : a + suc i ≡ a + 1 + i = omega arith in
    let f = count_some_from p (a + 1) n i (omega arith) (subst (λ k. p k ≡ true) there is) in
    subst (λ m. 0 < m) (sym (count_cons p a n)) (omega arith)

pub count_some : (p : ℕ → Bool) (n i : ℕ) → i < n → p i ≡ true →
    0 < count_by p (range_with_len 0 n)
count_some p n i lt is = count_some_from p 0 n i lt
    (let e : i ≡ 0 + i = omega arith in subst (λ k. p k ≡ true) e is)

-- ---- sums and the like

-- `gathered` adds what each step has, and a step that has nothing adds nothing
module _ (combine : ℕ → ℕ → ℕ) (part : ℕ → ℕ) (empty : (a : ℕ) → combine a (part 0) ≡ a)
    (step : ℕ → ℕ) (gathered : ℕ → ℕ)
    (grows : (n : ℕ) → gathered (suc n) ≡ combine (gathered n) (part (step n))) where
  adds : (n v : ℕ) → step n ≡ v → gathered (n + 1) ≡ combine (gathered n) (part v)
  adds n v is =
      let e : n + 1 ≡ suc n = omega arith in
      ap gathered e ∙ grows n ∙ ap (λ w. combine (gathered n) (part w)) is

  pub nothing_added : (t c : ℕ) → ((k : ℕ) → k < c → step (t + k) ≡ 0) →
      gathered (t + c) ≡ gathered t
  nothing_added t zero none = let e : t + 0 ≡ t = omega arith in ap gathered e
  nothing_added t (suc c) none =
      let e : t + suc c ≡ t + c + 1 = omega arith in
      ap gathered e ∙ adds (t + c) 0 (none c (omega arith)) ∙ empty (gathered (t + c))
      ∙ nothing_added t c (λ k lt. none k (omega arith))

  -- one step has something
  pub added_once : (t c at v : ℕ) → at < c → step (t + at) ≡ v →
      ((k : ℕ) → k < c → k ≢ at → step (t + k) ≡ 0) →
      gathered (t + c) ≡ combine (gathered t) (part v)
  added_once t zero at v lt is none = absurd (omega arith)
  added_once t (suc c) at v lt is none =
      let e : t + suc c ≡ t + c + 1 = omega arith in ⊎_elim
      (λ (same : at ≡ c).
      ap gathered e
      ∙ adds (t + c) v (subst (λ k. step (t + k) ≡ v) same is)
      ∙ ap (λ w. combine w (part v)) (nothing_added t c
      (λ k low. none k (omega arith) (λ no. omega arith))))
      (λ (apart : at ≢ c).
      ap gathered e
      ∙ adds (t + c) 0 (none c (omega arith) (λ no. apart (sym no)))
      ∙ empty (gathered (t + c))
      ∙ added_once t c at v (omega arith) is (λ k low. none k (omega arith)))
      (cases_eq at c)

  -- steps that add nothing from a place on
  pub nothing_later : (t u : ℕ) → ((k : ℕ) → t ≤ k → step k ≡ 0) → t ≤ u →
      gathered u ≡ gathered t
  nothing_later t u none le =
      let e : u ≡ t + (u - t) = omega arith in
      ap gathered e ∙ nothing_added t (u - t) (λ k lt. none (t + k) (omega arith))
