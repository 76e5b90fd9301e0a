-- How many numbers from 0 on pass a test.
use Rattle.std.proofs.Common.{arith, ◌≡◌, ℕ, suc, ◌+◌, ◌-◌, ◌<◌, ◌≤◌, Bool, true}
use Rattle.std.proofs.Common.{false, cond, List, [], ◌∷◌, ◌++◌, ap, sym, ◌∙◌}
use Rattle.std.proofs.Common.{length, Option, refl, subst}
use Rattle.std.specs.Prelude.{count_by, filter, find}
use Rattle.std.specs.List.{range_with_len}
use Rattle.std.proofs.lemmas.List.Sums.{count_by-le-length, length-filter, sum_by-append}
use Rattle.std.proofs.lemmas.List.FromFn.{length-range_with_len}
use Rattle.page_core.specs.declared.steps.StepRow.{StepRow}
use Rattle.pram_cost.proofs.Runners.{range-more}

-- one number more
pub count_more : (p : ℕ → Bool) (n : ℕ) →
    count_by p (range_with_len 0 (n + 1)) ≡ count_by p (range_with_len 0 n) + cond (p n) 1 0
count_more p n =
    let test : ℕ → ℕ = λ i. cond (p i) 1 0 in
    let whole : count_by p (range_with_len 0 (n + 1))
    ≡ count_by p (range_with_len 0 n ++ (0 + n) ∷ []) = ap (count_by p) (range-more 0 n) in
    let parts : count_by p (range_with_len 0 n ++ (0 + n) ∷ [])
    ≡ count_by p (range_with_len 0 n) + (0 + cond (p (0 + n)) 1 0) =
    sum_by-append test (range_with_len 0 n) ((0 + n) ∷ []) in
    let here : 0 + n ≡ n = omega arith in
    let last : cond (p (0 + n)) 1 0 ≡ cond (p n) 1 0 = ap test here in
    omega (arith, whole, parts, last)

pub count_few : (p : ℕ → Bool) (n : ℕ) → count_by p (range_with_len 0 n) ≤ n
count_few p n = omega (arith, count_by-le-length p (range_with_len 0 n), length-range_with_len 0 n)

-- those that pass, as a list
pub count_passing : (p : ℕ → Bool) (n : ℕ) →
    length (filter p (range_with_len 0 n)) ≡ count_by p (range_with_len 0 n)
count_passing p n = length-filter p (range_with_len 0 n)

pub one_few : (b : Bool) → cond b 1 0 ≤ 1
one_few true = omega arith
one_few false = omega arith

-- one that fails is not the first that passes
pub find_later : (p : ℕ → Bool) (k n : ℕ) (first : Option ℕ) → k < n → p k ≡ false →
    find p (range_with_len k (n - k)) ≡ first →
    find p (range_with_len (k + 1) (n - (k + 1))) ≡ first
find_later p k n first lt fails is =
    let rest : List ℕ = range_with_len (k + 1) (n - (k + 1)) in
    let more : n - k ≡ suc (n - (k + 1)) = omega arith in
    let skipped : find p (k ∷ rest) ≡ find p rest = rw fails in
    sym skipped ∙ ap (λ (m : ℕ). find p (range_with_len k m)) (sym more) ∙ is

-- a row is its four numbers
pub row_is : (row : StepRow) (a b c d : ℕ) → row.running ≡ a → row.reading ≡ b →
    row.writing ≡ c → row.at ≡ d →
    row ≡ record { running = a; reading = b; writing = c; at = d }
row_is row a b c d running reading writing at =
    subst (λ (n : ℕ). row ≡ record { running = n; reading = b; writing = c; at = d }) running
    (subst (λ (n : ℕ). row ≡ record { running = row.running; reading = n; writing = c; at = d })
    reading
    (subst (λ (n : ℕ). row
    ≡ record { running = row.running; reading = row.reading; writing = n; at = d }) writing
    (subst (λ (n : ℕ). row ≡ record {
      running = row.running;
      reading = row.reading;
      writing = row.writing;
      at = n;
    }) at refl)))
