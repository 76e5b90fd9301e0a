-- Turn after turn: what is kept by the turns of stopped processors is kept over all that are not
-- listed.
use Rattle.std.proofs.Common.{◌≡◌, ℕ, zero, suc, ◌+◌, ◌-◌, ◌<◌, ◌≤◌, ◌⊎◌, List, [], ◌∷◌}
use Rattle.std.proofs.Common.{◌++◌, length, take, get_or, set, sym, subst, ◌∙◌, inl, inr}
use Rattle.std.proofs.Common.{arith, add-zero, refl}
use Rattle.std.specs.List.{Contains}
use Rattle.std.specs.List.Sorted.{IsStrictlyIncreasing}
use Rattle.std.specs.Prelude.{All}
use Rattle.std.proofs.lemmas.Bool.{cases_eq, cases_lt}
use Rattle.std.proofs.lemmas.List.{get_or_default, get_or_past, get_or_append_left, get_or_push}
use Rattle.std.proofs.lemmas.List.{length_push, take_more_set}
use Rattle.std.proofs.lemmas.List.Elements.{All-push, All-weaker, All-nil}
use Rattle.std.proofs.lemmas.List.Elements.{Contains-append_left, Contains-push}
use Rattle.std.proofs.lemmas.List.Kept.{AllPairs-from_increasing}
use Rattle.pram_job.specs.Job.{JobData}
use Rattle.pram_machine.specs.Instructions.{goes_to, request_in}
use Rattle.pram_machine.specs.Machine.{State, counter, halted, IsStopped}
use Rattle.pram_machine.proofs.Shapes.{decided_idle, request_by}
use Rattle.pram_step.specs.Inner.Passes.{ChangesNothing, bound}
use Rattle.pram_step.specs.Running.{AreRunning, AreRunningBelow}

-- ---- from a number to a later one

run_on : (P : ℕ → Type 0) (a d : ℕ) →
    ((i : ℕ) → a ≤ i → i < a + d → P i → P (i + 1)) → P a → P (a + d)
run_on P a zero step here = subst P (sym (add-zero a)) here
run_on P a (suc d) step here =
    let e : a + d + 1 ≡ a + suc d = omega arith in
    subst P e (step (a + d) (omega arith) (omega arith)
    (run_on P a d (λ i low high. step i low (omega arith)) here))

run_to : (P : ℕ → Type 0) (a b : ℕ) → a ≤ b →
    ((i : ℕ) → a ≤ i → i < b → P i → P (i + 1)) → P a → P b
run_to P a b low step here =
    let e : a + (b - a) ≡ b = omega arith in
    subst P e (run_on P a (b - a) (λ i above below. step i above (omega arith)) here)

-- ---- over the numbers that are not listed

-- Some numbers below a total are listed in order, and each other is quiet. The bound of k is the
-- k-th that is listed, or the total.
module _ (total count : ℕ) (at bound : ℕ → ℕ) (quiet : ℕ → Type 0)
    (bound_inside : (k : ℕ) → k < count → bound k ≡ at k)
    (bound_past : (k : ℕ) → count ≤ k → bound k ≡ total)
    (within : (k : ℕ) → k < count → at k < total)
    (rises : (j k : ℕ) → j < k → k < count → at j < at k)
    (others : (i : ℕ) → i < total → quiet i ⊎ ((k : ℕ) × (k < count) × (at k ≡ i))) where
  bound_most : (k : ℕ) → bound k ≤ total
  bound_most k = elim (cases_lt k count) [
    | inl inside ↦
        let e = bound_inside k inside in
        let low = within k inside in omega arith
    | inr past ↦ (let e = bound_past k past in omega arith)
  ]

  -- it is none of those before the k-th, and below that one
  quiet_before : (k i : ℕ) → i < bound k → ((j : ℕ) → j < k → j < count → at j < i) → quiet i
  quiet_before k i high after =
      let most = bound_most k in
      elim (others i (omega arith)) [
        | inl is ↦ is
        | inr there ↦
            let inside = there.1 in
            let here = there.2 in
            absurd (elim (cases_lt there.0 k) [
              | inl below ↦ (let less = after there.0 below inside in omega arith)
              | inr above ↦
                  let e = bound_inside k (omega arith) in
                  elim (cases_eq there.0 k) [
                    | inl same ↦
                        let same' : at k ≡ i = subst (λ n. at n ≡ i) same here in omega arith
                    | inr apart ↦
                        (let less = rises k there.0 (omega arith) inside in omega arith)
                  ]
            ])
      ]

  module _ (P : ℕ → Type 0) (step : (i : ℕ) → i < total → quiet i → P i → P (i + 1)) where
    -- up to the first that is listed
    pub skip_first : P 0 → P (bound 0)
    skip_first = run_to P 0 (bound 0) (omega arith)
        (λ i low high. let most = bound_most 0 in step i (omega arith)
        (quiet_before 0 i high (λ j below inside. absurd (omega arith))))

    -- from one that is listed to the next
    pub skip_next : (k : ℕ) → k < count → P (at k + 1) → P (bound (k + 1))
    skip_next k inside = run_to P (at k + 1) (bound (k + 1))
        (elim (cases_lt (k + 1) count) [
          | inl more ↦
              let e = bound_inside (k + 1) more in
              let less = rises k (k + 1) (omega arith) more in omega arith
          | inr past ↦
              let e = bound_past (k + 1) past in
              let low = within k inside in omega arith
        ])
        (λ i low high. let most = bound_most (k + 1) in step i (omega arith)
        (quiet_before (k + 1) i high (λ j below inside'. elim (cases_lt j k) [
          | inl less ↦ (let under = rises j k less inside in omega arith)
          | inr no_less ↦
              let same : j ≡ k = omega arith in
              subst (λ n. at n < i) (sym same) (omega arith)
        ])))

-- ---- the processors that run

module _ (job : JobData) (s : State) (running : List ℕ) (are : AreRunning job s running) where
  pub bound_inside : (k : ℕ) → k < length running → bound job running k ≡ get_or running k 0
  bound_inside k inside = get_or_default running k job.procs 0 inside

  pub bound_past : (k : ℕ) → length running ≤ k → bound job running k ≡ job.procs
  bound_past k past = get_or_past running k job.procs past

  pub listed_below : (k : ℕ) → k < length running → get_or running k 0 < job.procs
  listed_below k inside = are.within k 0 inside

  rises : (j k : ℕ) → j < k → k < length running → get_or running j 0 < get_or running k 0
  rises j k low inside = AllPairs-from_increasing running are.rises j k 0 low inside

  others : (i : ℕ) → i < job.procs →
      IsStopped job s i ⊎ ((k : ℕ) × (k < length running) × (get_or running k 0 ≡ i))
  others i low = elim (cases_lt (counter job s i) (halted job)) [
    | inr past ↦ inl past
    | inl runs ↦
        let there = are.all i low runs in
        inr (
          there.0,
          there.1,
          get_or_default running there.0 0 i there.1 ∙ there.2,
        )
  ]

  module _ (P : ℕ → Type 0)
      (step : (i : ℕ) → i < job.procs → IsStopped job s i → P i → P (i + 1)) where
    pub run_first : P 0 → P (bound job running 0)
    run_first = skip_first job.procs (length running) (λ k. get_or running k 0) (bound job running)
        (IsStopped job s) bound_inside bound_past listed_below rises others P step

    pub run_next : (k : ℕ) → k < length running → P (get_or running k 0 + 1) →
        P (bound job running (k + 1))
    run_next = skip_next job.procs (length running) (λ k. get_or running k 0) (bound job running)
        (IsStopped job s) bound_inside bound_past listed_below rises others P step

-- so many are below each later one
pub count_after : (job : JobData) (running : List ℕ) → IsStrictlyIncreasing running →
    All (λ i. i < job.procs) running → (k count : ℕ) → k < length running →
    count ≤ get_or running k 0 + 1 → count ≤ bound job running (k + 1)
count_after job running rise within k count inside few =
    elim (cases_lt (k + 1) (length running)) [
      | inl more ↦
          let less = AllPairs-from_increasing running rise k (k + 1) 0 (omega arith) more in
          let e = get_or_default running (k + 1) job.procs 0 more in omega arith
      | inr past ↦
          let low = within k 0 inside in
          let e = get_or_past running (k + 1) job.procs past in omega arith
    ]

-- ---- how they are listed

IsStrictlyIncreasing-push : (xs : List ℕ) (y : ℕ) → All (λ x. x < y) xs →
    IsStrictlyIncreasing xs → IsStrictlyIncreasing (xs ++ y ∷ [])
IsStrictlyIncreasing-push xs y below rises k inside =
    let len = length_push xs y in
    elim (cases_lt (k + 1) (length xs)) [
      | inl within ↦
          let left = get_or_append_left xs (y ∷ []) 0 k (omega arith) in
          let right = get_or_append_left xs (y ∷ []) 0 (k + 1) within in
          let less = rises k within in omega arith
      | inr past ↦
          let left = get_or_append_left xs (y ∷ []) 0 k (omega arith) in
          let right = get_or_push xs y 0 (k + 1) (omega arith) in
          let less = below k 0 (omega arith) in omega arith
    ]

module _ (job : JobData) (s : State) (list : List ℕ) (n count : ℕ)
    (are : AreRunningBelow job s n (take count list)) where
  -- one more that runs
  pub AreRunningBelow_more : count < length list →
      AreRunningBelow job s (n + 1) (take (count + 1) (set list count n))
  AreRunningBelow_more room =
      subst (AreRunningBelow job s (n + 1)) (sym (take_more_set list count n room)) (record {
        within = All-push (λ i. i < n + 1) (take count list) n
            (All-weaker (λ i. i < n) (λ i. i < n + 1) (λ i low. omega arith) (take count list)
            are.within) (omega arith);
        rises = IsStrictlyIncreasing-push (take count list) n are.within are.rises;
        all = λ i low runs. elim (cases_lt i n) [
          | inl below ↦ Contains-append_left (take count list) (n ∷ []) i (are.all i below runs)
          | inr above ↦
              let same : n ≡ i = omega arith in
              subst (Contains (take count list ++ n ∷ [])) same (Contains-push (take count list) n)
        ];
      })

  -- one that has stopped
  pub AreRunningBelow_stopped : IsStopped job s n →
      AreRunningBelow job s (n + 1) (take count list)
  AreRunningBelow_stopped stopped = record {
    within = All-weaker (λ i. i < n) (λ i. i < n + 1) (λ i low. omega arith) (take count list)
        are.within;
    rises = are.rises;
    all = λ i low runs. elim (cases_lt i n) [
      | inl below ↦ are.all i below runs
      | inr above ↦
          let same : i ≡ n = omega arith in
          let runs' : counter job s n < halted job =
          subst (λ k. counter job s k < halted job) same runs in absurd (omega arith)
    ];
  }

pub AreRunningBelow_none : (job : JobData) (s : State) (list : List ℕ) →
    AreRunningBelow job s 0 (take 0 list)
AreRunningBelow_none job s list = record {
  within = All-nil (λ i. i < 0);
  rises = λ k inside. absurd (omega arith);
  all = λ i low runs. absurd (omega arith);
}

-- ---- who stands still

pub request_idle : (job : JobData) (s : State) (i : ℕ) →
    (request_in job s i).next ≡ counter job s i → ChangesNothing job s i
request_idle job s i =
    request_by (λ r. r.next ≡ counter job s i → r ≡ goes_to (counter job s i)) job s i
    (λ e. refl) (λ instr e. decided_idle job i _ _ _ _ instr)
