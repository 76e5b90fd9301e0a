-- A processor that was lost, at later moments; and what its last step tells of it.
use Rattle.std.proofs.Common.{◌≡◌, ◌⊎◌, ◌≢◌, ℕ, suc, ◌+◌, ◌-◌, ◌<◌, ◌≤◌, Bool, true, false}
use Rattle.std.proofs.Common.{cond, Option, Some, None, ap, sym, subst, ◌∙◌, inl, inr, refl, arith}
use Rattle.std.specs.Prelude.{nat_le, nat_lt}
use Rattle.std.proofs.lemmas.Bool.{cases_eq, cases_lt, leb-false, leb-true, ltb-false, ltb-true}
use Rattle.pram_job.specs.Job.{JobData, IsJob}
use Rattle.pram_machine.specs.Machine.{counter, out_of_range, AllStopped, IsStopped}
use Rattle.pram_step.specs.declared.last.LastRow.{LastRow}
use Rattle.pram_step.specs.Last.{last_row}
use Rattle.pram_step.specs.Running.{IsStop}
use Rattle.pram_step.specs.Runs.{state_after}
use Rattle.pram_step.proofs.Lasts.{after_run, gone_ran, last_cases}
use Rattle.pram_step.proofs.LawCounters.{counter_next, stopped_processor}
use Rattle.pram_rows.specs.declared.fates.Lost.{Lost}
use Rattle.pram_rows.specs.Fates.{IsFirstLostOrNone, IsLostIn, NamesNone}
use Rattle.pram_rows.specs.Inner.Losses.{earlier, if_before}
use Rattle.pram_rows.specs.FateLaws.{LostStaysLost}

-- right after the step
lost_next : (job : JobData) (t i : ℕ) → IsJob job → NamesNone job (state_after job t) i →
    counter job (state_after job (t + 1)) i ≡ out_of_range job
lost_next job t i is_job names = counter_next job t i is_job names.within ∙ names.names_none

pub lost_stays : LostStaysLost
lost_stays job t more i is_job names =
    let lost = lost_next job t i is_job names in
    (stopped_processor job (t + 1) more i is_job names.within (omega (arith, lost))).0 ∙ lost

-- so it is after n steps
pub lost_at : (job : JobData) (n t i : ℕ) → IsJob job → t < n → NamesNone job (state_after job t) i →
    counter job (state_after job n) i ≡ out_of_range job
lost_at job n t i is_job below names =
    let e : t + 1 + (n - (t + 1)) ≡ n = omega arith in
    subst (λ (m : ℕ). counter job (state_after job m) i ≡ out_of_range job) e
    (lost_stays job t (n - (t + 1)) i is_job names)

-- and its last step is that one
lost_step : (job : JobData) (n t i : ℕ) → IsJob job → t < n → NamesNone job (state_after job t) i →
    (last_row job n i).step ≡ suc t
lost_step job n t i is_job below names = elim (last_cases job n i) [
  | inl never ↦
      let stopped = never.stopped t below in
      let runs = names.runs in absurd (omega arith)
  | inr ran ↦ elim (cases_lt ran.before t) [
    | inl less ↦
        let stopped = ran.stopped t less below in
        let runs = names.runs in absurd (omega arith)
    | inr more ↦ elim (cases_eq ran.before t) [
      | inl same ↦ ran.step ∙ ap suc same
      | inr apart ↦
          let e : t + 1 + (ran.before - (t + 1)) ≡ ran.before = omega arith in
          let out = lost_next job t i is_job names in
          let later : counter job (state_after job ran.before) i ≡ out_of_range job =
          subst (λ (m : ℕ). counter job (state_after job m) i ≡ out_of_range job) e
          (lost_stays job t (ran.before - (t + 1)) i is_job names) in
          let runs = ran.runs in absurd (omega arith)
    ]
  ]
]

-- who is lost named no cell in its last step
lost_names : (job : JobData) (n i : ℕ) → IsJob job → i < job.procs →
    counter job (state_after job n) i ≡ out_of_range job → (before : ℕ) × (before < n)
    × ((last_row job n i).step ≡ suc before)
    × ((last_row job n i).index ≡ counter job (state_after job before) i)
    × NamesNone job (state_after job before) i
lost_names job n i is_job low out =
    let ran = gone_ran job n i is_job low out in (
      ran.before,
      ran.within,
      ran.step,
      ran.index,
      record {
        within = low;
        runs = ran.runs;
        names_none = sym (counter_next job ran.before i is_job low)
            ∙ after_run job n i (last_row job n i) is_job low ran ∙ out;
      },
    )

-- and its last row says in which step, and by which instruction
pub lost_in : (job : JobData) (n i : ℕ) (row : LastRow) → IsJob job → i < job.procs →
    counter job (state_after job n) i ≡ out_of_range job → row ≡ last_row job n i →
    IsLostIn job n (record { step = row.step; processor = i; index = row.index })
lost_in job n i row is_job low out row_is =
    let names = lost_names job n i is_job low out in
    let step : row.step ≡ suc names.0 = ap (λ (r : LastRow). r.step) row_is ∙ names.2 in
    record {
      before = names.0;
      within = names.1;
      step_is = omega arith;
      names_none = names.4;
      index_is = ap (λ (r : LastRow). r.index) row_is ∙ names.3;
    }

-- ---- the first of them

-- of the first k processors none is lost
abbrev pub NoneLost : JobData → ℕ → ℕ → Type 0
NoneLost job n k = (i : ℕ) → i < k → counter job (state_after job n) i ≢ out_of_range job

-- or this one is, by its last step; and each other that is, is so by a later one, or is greater
pub record IsLeast (job : JobData) (n k : ℕ) (lost : Lost) : Type 0 where
  pub within : lost.processor < k
  pub out : counter job (state_after job n) lost.processor ≡ out_of_range job
  pub step : lost.step ≡ (last_row job n lost.processor).step
  pub index : lost.index ≡ (last_row job n lost.processor).index
  pub least : (i : ℕ) → i < k → counter job (state_after job n) i ≡ out_of_range job →
      (lost.step ≤ (last_row job n i).step)
      × (lost.step ≡ (last_row job n i).step → lost.processor ≤ i)

abbrev pub HasSearched : JobData → ℕ → ℕ → Option Lost → Type 0
HasSearched job n k None = NoneLost job n k
HasSearched job n k (Some lost) = IsLeast job n k lost

module _ (job : JobData) (n k : ℕ) where
  -- one more that is not lost
  pub there_searched : (found : Option Lost) → HasSearched job n k found →
      counter job (state_after job n) k ≢ out_of_range job → HasSearched job n (k + 1) found
  there_searched None none there = λ i low. elim (cases_lt i k) [
    | inl less ↦ none i less
    | inr more ↦
        let e : k ≡ i = omega arith in
        subst (λ (j : ℕ). counter job (state_after job n) j ≢ out_of_range job) e there
  ]
  there_searched (Some lost) is there =
      let within = is.within in record {
        within = omega arith;
        out = is.out;
        step = is.step;
        index = is.index;
        least = λ i low out. elim (cases_lt i k) [
          | inl less ↦ is.least i less out
          | inr more ↦
              let e : i ≡ k = omega arith in
              absurd (there (subst (λ (j : ℕ). counter job (state_after job n) j
              ≡ out_of_range job) e out))
        ];
      }

  -- one more that is lost
  module _ (other : Lost) (same : other.processor ≡ k)
      (out : counter job (state_after job n) other.processor ≡ out_of_range job)
      (step : other.step ≡ (last_row job n other.processor).step)
      (index : other.index ≡ (last_row job n other.processor).index) where
    last_is : (i : ℕ) → k ≤ i → i < k + 1 → (last_row job n i).step ≡ other.step
    last_is i low high =
        let e : i ≡ other.processor = omega arith in
        ap (λ (j : ℕ). (last_row job n j).step) e ∙ sym step

    other_least : ((i : ℕ) → i < k → counter job (state_after job n) i ≡ out_of_range job →
        other.step < (last_row job n i).step) → IsLeast job n (k + 1) other
    other_least earlier_is = record {
      within = omega arith;
      out = out;
      step = step;
      index = index;
      least = λ i low is. elim (cases_lt i k) [
        | inl less ↦ (let after = earlier_is i less is in (omega arith, λ e. absurd (omega arith)))
        | inr more ↦ (let e = last_is i more low in (omega arith, λ _. omega arith))
      ];
    }

    first_stays : (first : Lost) → IsLeast job n k first → first.step ≤ other.step →
        IsLeast job n (k + 1) first
    first_stays first is low_step =
        let within = is.within in record {
          within = omega arith;
          out = is.out;
          step = is.step;
          index = is.index;
          least = λ i low out_too. elim (cases_lt i k) [
            | inl less ↦ is.least i less out_too
            | inr more ↦ (let e = last_is i more low in (omega arith, λ _. omega arith))
          ];
        }

    pub lost_searched : (found : Option Lost) → HasSearched job n k found →
        HasSearched job n (k + 1) (earlier found other)
    lost_searched None none = other_least (λ i low is. absurd (none i low is))
    lost_searched (Some first) is = choose (nat_le first.step other.step) refl
      where
        choose : (b : Bool) → nat_le first.step other.step ≡ b →
            HasSearched job n (k + 1) (cond b (Some first) (Some other))
        choose true holds = first_stays first is (leb-true first.step other.step holds)
        choose false fails =
            let less = leb-false first.step other.step fails in
            other_least (λ i low out_too.
            let before = (is.least i low out_too).0 in omega arith)

-- who is found so was the first
pub searched : (job : JobData) (n : ℕ) (found : Option Lost) → IsJob job →
    HasSearched job n job.procs found → IsFirstLostOrNone job n found
searched job n None is_job none = λ t low i names.
    none i names.within (lost_at job n t i is_job low names)
searched job n (Some lost) is_job is =
    let names = lost_names job n lost.processor is_job is.within is.out in
    let before = names.0 in
    let step : lost.step ≡ suc before = is.step ∙ names.2 in
    record {
      before = before;
      within = names.1;
      step_is = omega arith;
      first_is = record {
        names_none = names.4;
        least = λ j too.
            let at = lost_step job n before j is_job names.1 too in
            (is.least j too.within (lost_at job n before j is_job names.1 too)).1 (step ∙ sym at);
      };
      index_is = is.index ∙ names.3;
      none_before = λ t low j too.
          let inside = names.1 in
          let at = lost_step job n t j is_job (omega arith) too in
          let first = (is.least j too.within (lost_at job n t j is_job (omega arith) too)).0 in
          omega arith;
    }

-- it is the first before a later step too, if it is of a step before that
pub lost_if_before : (job : JobData) (made step : ℕ) → step ≡ made + 1 → (found : Option Lost) →
    IsFirstLostOrNone job step found → IsFirstLostOrNone job made (if_before found step)
lost_if_before job made step next None none = λ t low. none t (omega arith)
lost_if_before job made step next (Some lost) first = choose (nat_lt lost.step step) refl
  where
    choose : (b : Bool) → nat_lt lost.step step ≡ b →
        IsFirstLostOrNone job made (cond b (Some lost) None)
    choose true holds =
        let earlier_step = ltb-true lost.step step holds in
        let is = first.step_is in
        record {
          before = first.before;
          within = omega arith;
          step_is = first.step_is;
          first_is = first.first_is;
          index_is = first.index_is;
          none_before = first.none_before;
        }
    choose false fails = λ t low.
        let no_earlier = ltb-false lost.step step fails in
        let is = first.step_is in
        first.none_before t (omega arith)

-- ---- when all have stopped

-- the last step of the first k processors
pub record IsLastStep (job : JobData) (n k step : ℕ) : Type 0 where
  pub most : (i : ℕ) → i < k → (last_row job n i).step ≤ step
  pub attained : (step ≡ 0) ⊎ ((i : ℕ) × (i < k) × ((last_row job n i).step ≡ step))

pub no_last_step : (job : JobData) (n : ℕ) → IsLastStep job n 0 0
no_last_step job n = record { most = λ i low. absurd (omega arith); attained = inl refl }

pub next_last_step : (job : JobData) (n k step new : ℕ) → IsLastStep job n k step →
    step ≤ new → (last_row job n k).step ≤ new →
    ((new ≡ step) ⊎ (new ≡ (last_row job n k).step)) → IsLastStep job n (k + 1) new
next_last_step job n k step new is more row choice = record {
  most = λ i low. elim (cases_lt i k) [
    | inl less ↦ (let most = is.most i less in omega arith)
    | inr past ↦
        let e : k ≡ i = omega arith in
        subst (λ (j : ℕ). (last_row job n j).step ≤ new) e row
  ];
  attained = elim choice [
    | inl same ↦ elim is.attained [
      | inl zero ↦ inl (same ∙ zero)
      | inr there ↦ inr (
        there.0,
        (let within = there.1 in omega arith),
        there.2 ∙ sym same,
      )
    ]
    | inr here ↦ inr (k, omega arith, sym here)
  ];
}

-- who has stopped after n steps stands still from its last step on
still_stopped : (job : JobData) (n i u : ℕ) → IsStopped job (state_after job n) i →
    (last_row job n i).step ≤ u → u ≤ n → IsStopped job (state_after job u) i
still_stopped job n i u stopped past low = elim (cases_eq u n) [
  | inl same ↦ subst (λ (m : ℕ). IsStopped job (state_after job m) i) (sym same) stopped
  | inr apart ↦ elim (last_cases job n i) [
    | inl never ↦ never.stopped u (omega arith)
    | inr ran ↦ (let step = ran.step in ran.stopped u (omega arith) (omega arith))
  ]
]

last_within : (job : JobData) (n i : ℕ) → (last_row job n i).step ≤ n
last_within job n i = elim (last_cases job n i) [
  | inl never ↦ (let step = never.step in omega arith)
  | inr ran ↦ (let step = ran.step in let within = ran.within in omega arith)
]

pub last_step_within : (job : JobData) (n k step : ℕ) → IsLastStep job n k step → step ≤ n
last_step_within job n k step is = elim is.attained [
  | inl zero ↦ omega arith
  | inr there ↦
      let at = there.2 in
      let inside = last_within job n there.0 in omega arith
]

pub stops_there : (job : JobData) (n step : ℕ) → IsJob job → AllStopped job (state_after job n) →
    IsLastStep job n job.procs step → IsStop job step
stops_there job n step is_job stopped is =
    let within = last_step_within job n job.procs step is in
    record {
      stopped = λ i low. still_stopped job n i step (stopped i low) (is.most i low) within;
      runs = λ t low earlier. elim is.attained [
        | inl zero ↦ omega arith
        | inr there ↦ elim (last_cases job n there.0) [
          | inl never ↦
              let at = there.2 in
              let none_ran = never.step in omega arith
          | inr ran ↦
              let at = there.2 in
              let last = ran.step in
              let e : t + (ran.before - t) ≡ ran.before = omega arith in
              let here = earlier there.0 there.1 in
              let stays : counter job (state_after job ran.before) there.0
              ≡ counter job (state_after job t) there.0 =
              subst (λ (m : ℕ). counter job (state_after job m) there.0
              ≡ counter job (state_after job t) there.0) e
              (stopped_processor job t (ran.before - t) there.0 is_job there.1 here).0 in
              let runs = ran.runs in omega arith
        ]
      ];
    }
