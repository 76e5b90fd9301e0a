-- When a processor settles.
use Rattle.std.proofs.Common.{◌≡◌, ℕ, zero, suc, ◌+◌, ◌-◌, ◌<◌, ◌≤◌, ◌&&◌, Bool, not}
use Rattle.std.proofs.Common.{true, false, length, refl, sym, subst, ◌∙◌, inl, inr, arith}
use Rattle.std.proofs.lemmas.Bool.{cases_lt, cases_Bool, leb-false, lt-leb}
use Rattle.std.proofs.lemmas.Bool.{or_parts, cond-true, cond-false, not_from_false}
use Rattle.pram_job.specs.Job.{JobData, IsJob}
use Rattle.pram_machine.specs.Machine.{counter}
use Rattle.pram_step.specs.Runs.{state_after}
use Rattle.pram_step.proofs.LawCounters.{stopped_processor}
use Rattle.walk_memory.specs.Memory.{has_stopped, is_due, loads_next, own_at, settled_at}
use Rattle.walk_memory.specs.Memory.{settles}

-- ---- the last step in which a processor settled

module _ (job : JobData) (i : ℕ) where
  pub settled_new : (t : ℕ) → settles job t i ≡ true → settled_at job (suc t) i ≡ suc t
  unfolding settled_at
  settled_new t does = cond-true (settles job t i) (suc t) (settled_at job t i) does

  pub settled_same : (t : ℕ) → settles job t i ≡ false →
      settled_at job (suc t) i ≡ settled_at job t i
  unfolding settled_at
  settled_same t rests = cond-false (settles job t i) (suc t) (settled_at job t i) rests

  pub settled_most : (t : ℕ) → settled_at job t i ≤ t
  settled_most zero = unfold settled_at in omega arith
  settled_most (suc t) = elim (cases_Bool (settles job t i)) [
    | inl does ↦ (let e = settled_new t does in omega (arith, e))
    | inr rests ↦ (let h = settled_most t in let e = settled_same t rests in omega (arith, h, e))
  ]

  pub settled_is : (t s : ℕ) → settled_at job t i ≡ suc s → (settles job s i ≡ true) × (s < t)
  settled_is zero s e = absurd (let h = settled_most 0 in omega (arith, h, e))
  settled_is (suc t) s e = elim (cases_Bool (settles job t i)) [
    | inl does ↦ (let f = settled_new t does in
        let same : t ≡ s = omega (arith, e, f) in
        (subst (λ (n : ℕ). settles job n i ≡ true) same does, omega (arith, same)))
    | inr rests ↦ (let k = settled_is t s (sym (settled_same t rests) ∙ e) in
        (k.0, omega (arith, k.1)))
  ]

  pub settled_rises : (t u : ℕ) → t ≤ u → settled_at job t i ≤ settled_at job u i
  settled_rises t zero h =
      let z : t ≡ 0 = omega (arith, h) in
      subst (λ (n : ℕ). settled_at job n i ≤ settled_at job 0 i) (sym z) (omega arith)
  settled_rises t (suc u) h = elim (cases_lt t (suc u)) [
    | inr same ↦ (let z : t ≡ suc u = omega (arith, h, same) in
        subst (λ (n : ℕ). settled_at job n i ≤ settled_at job (suc u) i) (sym z) (omega arith))
    | inl less ↦ (let k = settled_rises t u (omega (arith, less)) in
        elim (cases_Bool (settles job u i)) [
          | inl does ↦ (let e = settled_new u does in let m = settled_most t in
              omega (arith, e, m, h))
          | inr rests ↦ (let e = settled_same u rests in omega (arith, e, k))
        ])
  ]

  -- It is no older than each that there is.
  pub settled_least : (t s : ℕ) → s < t → settles job s i ≡ true → s < settled_at job t i
  settled_least t s less does =
      let e = settled_new s does in
      let h = settled_rises (suc s) t (omega (arith, less)) in omega (arith, e, h)

  pub settled_between : (t u : ℕ) → t ≤ u →
      ((s : ℕ) → t ≤ s → s < u → settles job s i ≡ true → ⊥) →
      settled_at job u i ≡ settled_at job t i
  settled_between t u h none = by (settled_at job u i) refl
    where
      by : (l : ℕ) → settled_at job u i ≡ l → settled_at job u i ≡ settled_at job t i
      by zero e = let k = settled_rises t u h in omega (arith, k, e)
      by (suc s) e = let k = settled_rises t u h in let was = settled_is u s e in
          elim (cases_lt s t) [
            | inl less ↦ (let l = settled_least t s less was.0 in omega (arith, k, l, e))
            | inr more ↦ absurd (none s more was.1 was.0)
          ]

  -- since then it has not settled, and loads nothing
  pub rests_since : (t s : ℕ) → settled_at job t i ≤ s → s < t → settles job s i ≡ false
  rests_since t s from less = elim (cases_Bool (settles job s i)) [
    | inl does ↦ absurd (let k = settled_least t s less does in omega (arith, k, from))
    | inr rests ↦ rests
  ]

  pub loads_none_since : (t s : ℕ) → settled_at job t i ≤ s → s < t →
      loads_next job (own_at job s i) ≡ false
  loads_none_since t s from less = (or_parts _ _ (rests_since t s from less)).0

  -- ---- how long ago that was

  -- one that runs has run before
  pub runs_before : (s t : ℕ) → IsJob job → i < job.procs → s ≤ t →
      counter job (state_after job t) i < length job.code →
      counter job (state_after job s) i < length job.code
  runs_before s t is_job proc h runs =
      elim (cases_lt (counter job (state_after job s) i) (length job.code)) [
        | inl low ↦ low
        | inr past ↦ absurd (let k = (stopped_processor job s (t - s) i is_job proc past).0 in
            let there : s + (t - s) ≡ t = omega (arith, h) in
            let same : counter job (state_after job t) i ≡ counter job (state_after job s) i =
            subst (λ (n : ℕ). counter job (state_after job n) i
            ≡ counter job (state_after job s) i) there k in
            omega (arith, same, past, runs))
      ]

  -- One that has not stopped has settled in one of the last 64 steps.
  pub near : (t : ℕ) → IsJob job → i < job.procs →
      counter job (state_after job t) i < length job.code → t < settled_at job t i + 64
  near zero is_job proc runs = omega arith
  near (suc t) is_job proc runs = elim (cases_Bool (settles job t i)) [
    | inl does ↦ (let e = settled_new t does in omega (arith, e))
    | inr rests ↦
        let low = runs_before t (suc t) is_job proc (omega arith) runs in
        let goes : has_stopped job (own_at job t i) ≡ false =
        lt-leb (length job.code) (counter job (state_after job t) i) low in
        still t (settled_same t rests) (leb-false (settled_at job t i + 64) (suc t)
        (not_due (is_due (settled_at job t i) (suc t)) (not (has_stopped job (own_at job t i)))
        (or_parts _ _ rests).1 (not_from_false _ goes)))
  ]
    where
      still : (t : ℕ) → settled_at job (suc t) i ≡ settled_at job t i →
          suc t < settled_at job t i + 64 → suc t < settled_at job (suc t) i + 64
      still t e less = omega (arith, less, e)

      not_due : (a b : Bool) → (a && b) ≡ false → b ≡ true → a ≡ false
      not_due false b e goes = refl
      not_due true b e goes = absurd (cc)

  -- One that has stopped had done so 64 steps after it settled.
  pub stopped_near : (t u : ℕ) → IsJob job → i < job.procs →
      length job.code ≤ counter job (state_after job t) i → settled_at job t i + 64 ≤ u →
      length job.code ≤ counter job (state_after job u) i
  stopped_near t u is_job proc past far =
      elim (cases_lt (counter job (state_after job u) i) (length job.code)) [
        | inr over ↦ over
        | inl runs ↦ elim (cases_lt u t) [
          | inl less ↦ absurd (let n = near u is_job proc runs in
              let k = settled_rises u t (omega (arith, less)) in omega (arith, n, k, far))
          | inr more ↦ absurd (let low = runs_before t u is_job proc more runs in
              omega (arith, low, past))
        ]
      ]
