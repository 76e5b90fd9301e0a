-- How many numbers from 0 on pass a test.
use Rattle.std.proofs.Common.{◌≡◌, ℕ, zero, suc, ◌+◌, ◌≤◌, Bool, true, false, cond, List, [], ◌∷◌}
use Rattle.std.proofs.Common.{◌++◌, ap, ◌∙◌, arith}
use Rattle.std.specs.List.{count_by, range_with_len}
use Rattle.std.proofs.lemmas.List.Sums.{count_by-le-length, sum_by-append}
use Rattle.std.proofs.lemmas.List.FromFn.{length-range_with_len}

-- one number more
range-more : (a n : ℕ) → range_with_len a (suc n) ≡ range_with_len a n ++ (a + n) ∷ []
range-more a zero =
    let e : a ≡ a + 0 = omega arith in
    ap (λ (m : ℕ). m ∷ []) e
range-more a (suc n) =
    let e : a + 1 + n ≡ a + suc n = omega arith in
    ap (λ (xs : List ℕ). a ∷ xs)
    (range-more (a + 1) n ∙ ap (λ (m : ℕ). range_with_len (a + 1) n ++ m ∷ []) e)

count-more : (p : ℕ → Bool) (n : ℕ) → count_by p (range_with_len 0 (n + 1))
    ≡ count_by p (range_with_len 0 n) + cond (p n) 1 0
count-more p n =
    let test : ℕ → ℕ = λ i. cond (p i) 1 0 in
    let one : n + 1 ≡ suc n = omega arith in
    let whole : count_by p (range_with_len 0 (n + 1))
    ≡ count_by p (range_with_len 0 n ++ (0 + n) ∷ []) =
    ap (λ (m : ℕ). count_by p (range_with_len 0 m)) one ∙ ap (count_by p) (range-more 0 n) in
    let parts : count_by p (range_with_len 0 n ++ (0 + n) ∷ [])
    ≡ count_by p (range_with_len 0 n) + (0 + cond (p (0 + n)) 1 0) =
    sum_by-append test (range_with_len 0 n) ((0 + n) ∷ []) in
    let here : 0 + n ≡ n = omega arith in
    let last : cond (p (0 + n)) 1 0 ≡ cond (p n) 1 0 = ap test here in
    omega (arith, whole, parts, last)

module _ (p : ℕ → Bool) (n : ℕ) where
  pub count_more_yes : p n ≡ true →
      count_by p (range_with_len 0 (n + 1)) ≡ count_by p (range_with_len 0 n) + 1
  count_more_yes passes = count-more p n
      ∙ ap (λ (b : Bool). count_by p (range_with_len 0 n) + cond b 1 0) passes

  pub count_more_no : p n ≡ false →
      count_by p (range_with_len 0 (n + 1)) ≡ count_by p (range_with_len 0 n)
  count_more_no fails =
      let e = count-more p n
      ∙ ap (λ (b : Bool). count_by p (range_with_len 0 n) + cond b 1 0) fails in
      omega (arith, e)

  pub count_few : count_by p (range_with_len 0 n) ≤ n
  count_few = omega (arith, count_by-le-length p (range_with_len 0 n), length-range_with_len 0 n)
