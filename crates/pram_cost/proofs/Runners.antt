-- The processors that run in a state, as a list.
use Rattle.std.proofs.Common.{◌≡◌, ℕ, zero, suc, ◌+◌, ◌<◌, Bool, true, false, cond}
use Rattle.std.proofs.Common.{List, [], ◌∷◌, ◌++◌, length, sym, ap, ◌∙◌, arith, add-one}
use Rattle.std.proofs.Common.{length-append}
use Rattle.std.specs.Prelude.{filter, All}
use Rattle.std.specs.List.{range_with_len}
use Rattle.std.proofs.lemmas.List.Elements.{All-filter, filter-append}
use Rattle.std.proofs.lemmas.List.FromFn.{length-range_with_len, get_or-range_with_len}
use Rattle.std.proofs.Math.Nat.{add-zero}
use Rattle.pram_job.specs.Job.{JobData}
use Rattle.pram_cost.specs.Accesses.{running_in}
use Rattle.pram_step.specs.Running.{is_running}
use Rattle.pram_machine.specs.Machine.{State}

-- ---- numbers from 0 on

pub range_below : (n : ℕ) → All (λ i. i < n) (range_with_len 0 n)
range_below n k d lt =
    let short : k < n = omega (arith, length-range_with_len 0 n) in
    omega (arith, get_or-range_with_len 0 n k d short)

-- one number more
pub range-more : (a n : ℕ) → range_with_len a (n + 1) ≡ range_with_len a n ++ (a + n) ∷ []
range-more a n = rw add-one (range-suc a n)
  where
    range-suc : (a n : ℕ) → range_with_len a (suc n) ≡ range_with_len a n ++ (a + n) ∷ []
    range-suc a zero = ap (λ (m : ℕ). m ∷ []) (sym (add-zero a))
    range-suc a (suc n) =
        let e : a + 1 + n ≡ a + suc n = omega arith in
        ap (λ (xs : List ℕ). a ∷ xs)
        (range-suc (a + 1) n ∙ ap (λ (m : ℕ). range_with_len (a + 1) n ++ m ∷ []) e)

-- ---- a filter

filter_more : (p : ℕ → Bool) (n : ℕ) →
    filter p (range_with_len 0 (n + 1)) ≡ filter p (range_with_len 0 n) ++ filter p (n ∷ [])
filter_more p n =
    let e : 0 + n ≡ n = omega arith in
    ap (filter p) (range-more 0 n)
    ∙ filter-append p (range_with_len 0 n) ((0 + n) ∷ [])
    ∙ ap (λ (m : ℕ). filter p (range_with_len 0 n) ++ filter p (m ∷ [])) e

-- ---- the processors that run

pub running_below : (job : JobData) (s : State) → All (λ i. i < job.procs) (running_in job s)
running_below job s =
    All-filter (is_running job s) (λ i. i < job.procs) (range_with_len 0 job.procs)
    (range_below job.procs)

-- so many of n run, and of one more
pub count_runs : (job : JobData) (s : State) (n : ℕ) → is_running job s n ≡ true →
    length (filter (is_running job s) (range_with_len 0 (n + 1)))
    ≡ length (filter (is_running job s) (range_with_len 0 n)) + 1
count_runs job s n runs =
    let p = is_running job s in
    let last : length (filter p (n ∷ [])) ≡ 1 =
    ap (λ (b : Bool). length (cond b (n ∷ []) [])) runs in
    omega (
      arith,
      ap length (filter_more p n),
      length-append (filter p (range_with_len 0 n)) (filter p (n ∷ [])),
      last,
    )

pub count_stopped : (job : JobData) (s : State) (n : ℕ) → is_running job s n ≡ false →
    length (filter (is_running job s) (range_with_len 0 (n + 1)))
    ≡ length (filter (is_running job s) (range_with_len 0 n))
count_stopped job s n stopped =
    let p = is_running job s in
    let last : length (filter p (n ∷ [])) ≡ 0 =
    ap (λ (b : Bool). length (cond b (n ∷ []) [])) stopped in
    omega (
      arith,
      ap length (filter_more p n),
      length-append (filter p (range_with_len 0 n)) (filter p (n ∷ [])),
      last,
    )
