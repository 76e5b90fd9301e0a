-- What each processor executed last, and in which of the steps.
use Rattle.std.proofs.Common.{arith, ◌≡◌, ◌≢◌, ◌⊎◌, ℕ, zero, suc, ◌+◌, ◌-◌, ◌<◌, ◌≤◌, Bool, true}
use Rattle.std.proofs.Common.{false, cond, List, length, refl, ap, sym, subst, ◌∙◌, inl, inr}
use Rattle.std.proofs.Common.{get_or, set, slice_get, Some, replicate, get_or-set_same}
use Rattle.std.proofs.Common.{length-set, add-zero, get_or-set_other, Option, None}
use Rattle.std.proofs.lemmas.Bool.{cases_eq, cases_lt, lt-ltb, le-ltb}
use Rattle.std.proofs.lemmas.List.{get_or-replicate, get_or_default, length-replicate}
use Rattle.std.proofs.lemmas.Option.{slice_get-get_or, slice_get_within, get_or_from_slice_get}
use Rattle.pram_job.specs.Job.{JobData, IsJob}
use Rattle.pram_machine.specs.Machine.{State, counter, halted, out_of_range, AllStopped, IsStopped}
use Rattle.pram_step.specs.declared.last.LastRow.{LastRow}
use Rattle.pram_step.specs.Last.{AreLast, last_row}
use Rattle.pram_step.specs.Runs.{state_after}
use Rattle.pram_step.proofs.LawCounters.{start_counter, stopped_processor}
use Rattle.pram_step.specs.Running.{AreRunning, Repeats, is_running}
use Rattle.pram_step.specs.Walks.{IsSeenUntil}

abbrev never : LastRow
never = record { step = 0; index = 0 }

-- ---- one step more

next_last : (job : JobData) (t i : ℕ) (runs : Bool) →
    is_running job (state_after job t) i ≡ runs → last_row job (suc t) i
    ≡ cond runs (record { step = suc t; index = counter job (state_after job t) i })
    (last_row job t i)
unfolding last_row
next_last job t i runs is = ap (λ (b : Bool).
    cond b (record { step = suc t; index = counter job (state_after job t) i }) (last_row job t i))
    is

pub next_runs : (job : JobData) (t i : ℕ) → counter job (state_after job t) i < halted job →
    last_row job (suc t) i ≡ record { step = suc t; index = counter job (state_after job t) i }
next_runs job t i runs =
    next_last job t i true (lt-ltb (counter job (state_after job t) i) (halted job) runs)

next_stopped : (job : JobData) (t i : ℕ) → IsStopped job (state_after job t) i →
    last_row job (suc t) i ≡ last_row job t i
next_stopped job t i stopped =
    next_last job t i false (le-ltb (counter job (state_after job t) i) (halted job) stopped)

-- ---- several that begin in one state

module _ (job : JobData) (t i : ℕ) (s : State) where
  pub stopped_last : (times : ℕ) → Repeats job t times s → IsStopped job s i →
      last_row job (t + times) i ≡ last_row job t i
  stopped_last zero same stopped = ap (λ (n : ℕ). last_row job n i) (add-zero t)
  stopped_last (suc n) same stopped =
      let e : t + suc n ≡ suc (t + n) = omega arith in
      ap (λ (m : ℕ). last_row job m i) e
      ∙ next_stopped job (t + n) i
      (subst (λ (r : State). IsStopped job r i) (sym (same n (omega arith))) stopped)
      ∙ stopped_last n (λ k low. same k (omega arith)) stopped

  pub ran_last : (times : ℕ) → 0 < times → Repeats job t times s → counter job s i < halted job →
      last_row job (t + times) i ≡ record { step = t + times; index = counter job s i }
  ran_last zero some same runs = absurd (omega arith)
  ran_last (suc n) some same runs =
      let e : t + suc n ≡ suc (t + n) = omega arith in
      let is : state_after job (t + n) ≡ s = same n (omega arith) in
      ap (λ (m : ℕ). last_row job m i) e
      ∙ next_runs job (t + n) i
      (subst (λ (r : State). counter job r i < halted job) (sym is) runs)
      ∙ (λ k. record { step = sym e k; index = counter job (is k) i })

-- ---- which step it was

-- it runs before none of the first t steps
pub record HasNeverRun (job : JobData) (t i : ℕ) (row : LastRow) : Type 0 where
  pub step : row.step ≡ 0
  pub stopped : (u : ℕ) → u < t → IsStopped job (state_after job u) i

-- it runs before this one, and before none after it
pub record HasRun (job : JobData) (t i : ℕ) (row : LastRow) : Type 0 where
  pub before : ℕ
  pub within : before < t
  pub step : row.step ≡ suc before
  pub index : row.index ≡ counter job (state_after job before) i
  pub runs : counter job (state_after job before) i < halted job
  pub stopped : (u : ℕ) → before < u → u < t → IsStopped job (state_after job u) i

module _ (job : JobData) (t i : ℕ) where
  case_runs : counter job (state_after job t) i < halted job →
      HasRun job (suc t) i (last_row job (suc t) i)
  case_runs runs =
      let e = next_runs job t i runs in record {
        before = t;
        within = omega arith;
        step = ap (λ (r : LastRow). r.step) e;
        index = ap (λ (r : LastRow). r.index) e;
        runs = runs;
        stopped = λ u low high. absurd (omega arith);
      }

  case_never : IsStopped job (state_after job t) i → HasNeverRun job t i (last_row job t i) →
      HasNeverRun job (suc t) i (last_row job (suc t) i)
  case_never stopped is = record {
    step = ap (λ (r : LastRow). r.step) (next_stopped job t i stopped) ∙ is.step;
    stopped = λ u low. elim (cases_lt u t) [
      | inl less ↦ is.stopped u less
      | inr more ↦
          let same : t ≡ u = omega arith in
          subst (λ (n : ℕ). IsStopped job (state_after job n) i) same stopped
    ];
  }

  case_stopped : IsStopped job (state_after job t) i → HasRun job t i (last_row job t i) →
      HasRun job (suc t) i (last_row job (suc t) i)
  case_stopped stopped is =
      let e = next_stopped job t i stopped in
      let within = is.within in
      record {
        before = is.before;
        within = omega arith;
        step = ap (λ (r : LastRow). r.step) e ∙ is.step;
        index = ap (λ (r : LastRow). r.index) e ∙ is.index;
        runs = is.runs;
        stopped = λ u low high. elim (cases_lt u t) [
          | inl less ↦ is.stopped u low less
          | inr more ↦
              let same : t ≡ u = omega arith in
              subst (λ (n : ℕ). IsStopped job (state_after job n) i) same stopped
        ];
      }

pub last_cases : (job : JobData) (t i : ℕ) →
    HasNeverRun job t i (last_row job t i) ⊎ HasRun job t i (last_row job t i)
unfolding last_row
last_cases job zero i = inl (record { step = refl; stopped = λ u low. absurd (omega arith) })
last_cases job (suc t) i = elim (cases_lt (counter job (state_after job t) i) (halted job)) [
  | inl runs ↦ inr (case_runs job t i runs)
  | inr stopped ↦ elim (last_cases job t i) [
    | inl is ↦ inl (case_never job t i stopped is)
    | inr is ↦ inr (case_stopped job t i stopped is)
  ]
]

-- ---- where it is then

-- its counter stays as that step has left it
pub after_run : (job : JobData) (t i : ℕ) (row : LastRow) → IsJob job → i < job.procs →
    (ran : HasRun job t i row) →
    counter job (state_after job (ran.before + 1)) i ≡ counter job (state_after job t) i
after_run job t i row is_job low ran =
    let within = ran.within in
    elim (cases_lt (ran.before + 1) t) [
      | inl less ↦
          let e : ran.before + 1 + (t - (ran.before + 1)) ≡ t = omega arith in
          subst (λ (n : ℕ). counter job (state_after job (ran.before + 1)) i
          ≡ counter job (state_after job n) i) e
          (sym (stopped_processor job (ran.before + 1) (t - (ran.before + 1)) i is_job low
          (ran.stopped (ran.before + 1) (omega arith) less)).0)
      | inr more ↦
          let e : ran.before + 1 ≡ t = omega arith in
          ap (λ (n : ℕ). counter job (state_after job n) i) e
    ]

-- who never ran stands at the start
never_left : (job : JobData) (t i : ℕ) (row : LastRow) → IsJob job → i < job.procs →
    HasNeverRun job t i row → counter job (state_after job t) i ≡ 0
unfolding state_after
never_left job zero i row is_job low never = start_counter job i is_job low
never_left job (suc t) i row is_job low never =
    let e : 0 + suc t ≡ suc t = omega arith in
    subst (λ (n : ℕ). counter job (state_after job n) i ≡ 0) e
    ((stopped_processor job 0 (suc t) i is_job low (never.stopped 0 (omega arith))).0
    ∙ start_counter job i is_job low)

-- so who is gone has run
pub gone_ran : (job : JobData) (t i : ℕ) → IsJob job → i < job.procs →
    counter job (state_after job t) i ≡ out_of_range job → HasRun job t i (last_row job t i)
gone_ran job t i is_job low gone = elim (last_cases job t i) [
  | inl never ↦
      let start = never_left job t i (last_row job t i) is_job low never in absurd (omega arith)
  | inr ran ↦ ran
]

-- ---- rows

pub none_ran : (job : JobData) (n : ℕ) → n ≡ job.procs → AreLast job 0 (replicate n never)
unfolding last_row
none_ran job n each i low =
    slice_get-get_or (replicate n never) i never
    (omega (arith, length-replicate n never))
    ∙ ap Some (get_or-replicate n i never never (omega arith))

pub row_other : (rows : List LastRow) (p i : ℕ) (row wanted : LastRow) → i ≢ p →
    slice_get rows i ≡ Some wanted → slice_get (set rows p row) i ≡ Some wanted
row_other rows p i row wanted apart is =
    let within = slice_get_within rows i wanted is in
    slice_get-get_or (set rows p row) i never (omega (arith, length-set rows p row))
    ∙ ap Some (get_or-set_other rows p i row never apart
    ∙ get_or_from_slice_get rows i wanted never is)

pub row_same : (rows : List LastRow) (p : ℕ) (row : LastRow) → p < length rows →
    slice_get (set rows p row) p ≡ Some row
row_same rows p row within =
    slice_get-get_or (set rows p row) p never (omega (arith, length-set rows p row))
    ∙ ap Some (get_or-set_same rows p row never within)

-- ---- those that run are noted

-- Of the processors that are listed the first k are noted, and each has the row before or the one
-- after.
pub record AreNoted (job : JobData) (t later : ℕ) (running : List ℕ) (k : ℕ)
    (rows : List LastRow) : Type 0 where
  pub noted : (j : ℕ) → j < k →
      slice_get rows (get_or running j 0) ≡ Some (last_row job later (get_or running j 0))
  pub either : (i : ℕ) → i < job.procs → (slice_get rows i ≡ Some (last_row job t i))
      ⊎ (slice_get rows i ≡ Some (last_row job later i))

module _ (job : JobData) (t later : ℕ) (running : List ℕ) where
  pub none_noted : (rows : List LastRow) → AreLast job t rows →
      AreNoted job t later running 0 rows
  none_noted rows last = record {
    noted = λ j low. absurd (omega arith);
    either = λ i low. inl (last i low);
  }

  module _ (rows : List LastRow) (k : ℕ) (before : AreNoted job t later running k rows)
      (low : get_or running k 0 < job.procs) where
    pub noted_within : get_or running k 0 < length rows
    noted_within =
        let p = get_or running k 0 in
        elim (before.either p low) [
          | inl old ↦ slice_get_within rows p (last_row job t p) old
          | inr new ↦ slice_get_within rows p (last_row job later p) new
        ]

    pub row_noted : (row : LastRow) → row ≡ last_row job later (get_or running k 0) →
        AreNoted job t later running (k + 1) (set rows (get_or running k 0) row)
    row_noted row is =
        let p = get_or running k 0 in
        let here : slice_get (set rows p row) p ≡ Some (last_row job later p) =
        row_same rows p row noted_within ∙ ap Some is in
        record {
          noted = λ j less. elim (cases_eq (get_or running j 0) p) [
            | inl same ↦ subst (λ (q : ℕ). slice_get (set rows p row) q
                ≡ Some (last_row job later q)) (sym same) here
            | inr apart ↦
                let earlier : j ≢ k = λ e. apart (ap (λ (n : ℕ). get_or running n 0) e) in
                row_other rows p (get_or running j 0) row _ apart
                (before.noted j (omega arith))
          ];
          either = λ i inside. elim (cases_eq i p) [
            | inl same ↦ inr (subst (λ (q : ℕ). slice_get (set rows p row) q
                ≡ Some (last_row job later q)) (sym same) here)
            | inr apart ↦ elim (before.either i inside) [
              | inl old ↦ inl (row_other rows p i row (last_row job t i) apart old)
              | inr new ↦ inr (row_other rows p i row (last_row job later i) apart new)
            ]
          ];
        }

    pub stopped_noted : last_row job later (get_or running k 0)
        ≡ last_row job t (get_or running k 0) → AreNoted job t later running (k + 1) rows
    stopped_noted same = record {
      noted = λ j less. elim (cases_lt j k) [
        | inl earlier ↦ before.noted j earlier
        | inr past ↦
            let e : k ≡ j = omega arith in
            subst (λ (n : ℕ). slice_get rows (get_or running n 0)
            ≡ Some (last_row job later (get_or running n 0))) e
            (elim (before.either (get_or running k 0) low) [
              | inl old ↦ old ∙ ap Some (sym same)
              | inr new ↦ new
            ])
      ];
      either = before.either;
    }

  pub all_noted : (rows : List LastRow) (s : State) (k : ℕ) → length running ≤ k →
      AreNoted job t later running k rows → AreRunning job s running →
      ((i : ℕ) → IsStopped job s i → last_row job later i ≡ last_row job t i) →
      AreLast job later rows
  all_noted rows s k all are running_are stays i low =
      elim (cases_lt (counter job s i) (halted job)) [
        | inl runs ↦
            let there = running_are.all i low runs in
            let e : get_or running there.0 0 ≡ i =
            get_or_default running there.0 0 i there.1 ∙ there.2 in
            subst (λ (q : ℕ). slice_get rows q ≡ Some (last_row job later q)) e
            (are.noted there.0 (let inside = there.1 in omega arith))
        | inr stopped ↦ elim (are.either i low) [
          | inl old ↦ old ∙ ap Some (sym (stays i stopped))
          | inr new ↦ new
        ]
      ]

-- ---- until all have stopped

-- another has seen some steps more, which begin where some processor runs
pub seen_more : (job : JobData) (t times : ℕ) (s : State) (stopped : Option ℕ)
    (before after : ℕ → Type 0) → stopped ≡ None → Repeats job t times s →
    (AllStopped job s → ⊥) → IsSeenUntil job t stopped before → after (t + times) →
    IsSeenUntil job (t + times) stopped after
seen_more job t times s stopped before after is same runs seen more =
    subst (λ (o : Option ℕ). IsSeenUntil job (t + times) o after) (sym is) (
      (λ u low all. elim (cases_lt u t) [
        | inl less ↦ (subst (λ (o : Option ℕ). IsSeenUntil job t o before) is seen).0 u less all
        | inr past ↦
            let e : t + (u - t) ≡ u = omega arith in
            runs (subst (AllStopped job) (same (u - t) (omega arith))
            (subst (λ (n : ℕ). AllStopped job (state_after job n)) (sym e) all))
      ]),
      more,
    )
