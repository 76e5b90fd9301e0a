-- A worker that the plan does not stop is over in the end, and tells how the job ended.
use Rattle.std.proofs.Common.{◌≡◌, ◌≢◌, ◌⊎◌, ℕ, zero, suc, ◌+◌, ◌<◌, ◌≤◌, Bool, true}
use Rattle.std.proofs.Common.{false, ◌&&◌, ◌||◌, ◌==◌, if◌then◌else◌, List, [], ◌∷◌}
use Rattle.std.proofs.Common.{◌++◌, map, replicate, slice_get, slice_set, Option}
use Rattle.std.proofs.Common.{Some, None, refl, sym, ap, subst, ◌∙◌, inl, inr, arith}
use Rattle.std.proofs.lemmas.Bool.{cases_Bool, eqb-true, eqb-false}
use Rattle.std.specs.List.{range_with_len}
use Rattle.pram_job.specs.Job.{JobData, IsJob}
use Rattle.pram_step.specs.declared.answer.RunAnswer.{RunAnswer}
use Rattle.pram_step.specs.declared.answer.RunAnswer.TheVariants.{Final, Conflict, Unfinished}
use Rattle.stop_plan.specs.declared.plan.Act.{Act}
use Rattle.stop_plan.specs.declared.plan.Act.TheVariants as act
use Rattle.stop_plan.specs.declared.plan.Row.{Row}
use Rattle.stop_plan.specs.Plan.{PlanData, is_stop, stops}
use Rattle.stop_plan.specs.Schedule.{NoneRuns, after_turns, after_rounds}
use Rattle.stop_plan.specs.Schedule.{events_of_act, events_of_rows}
use Rattle.walkx.specs.Operations.{answer}
use Rattle.walkx.specs.Records.{empty}
use Rattle.walkx.specs.Walk.{Walking, ask_of, told, started, come_back}
use Rattle.pram_world.specs.declared.event.Event.{Event}
use Rattle.pram_world.specs.declared.event.Event.TheVariants.{Go, Stop, Back}
use Rattle.pram_world.specs.Outcomes.{IsWorldOutcome}
use Rattle.pram_world.specs.Worlds.{Body, walks, stopped, number, WorldData, Walks}
use Rattle.pram_world.specs.Worlds.{start_compact, run, went, replaced, happens, going}
use Rattle.pram_world.proofs.Counting.{get_set_same, get_set_other}
use Rattle.pram_world.specs.Inner.Holding.{Held}
use Rattle.pram_world.proofs.Keeping.{holds_start, run_holds}
use Rattle.pram_world.proofs.Overs.{over_finished}
use Rattle.pram_run.specs.declared.trace.TraceRow.{TraceRow}
use Rattle.pram_run.specs.Inner.Progress.{IsAfterEvents}
use Rattle.pram_run.specs.Replays.{IsReplay, still_runs, world_events}
use Rattle.pram_run.specs.Running.{IsUnfinished}

-- no event stops the body
abbrev NeverStops : ℕ → List Event → Type 0
NeverStops b [] = Unit {0}
NeverStops b (e ∷ es) = (e ≢ Stop b) × NeverStops b es

never_both : (b : ℕ) (xs ys : List Event) → NeverStops b xs →
    NeverStops b ys → NeverStops b (xs ++ ys)
never_both b [] ys h k = k
never_both b (x ∷ xs) ys h k = (h.0, never_both b xs ys h.1 k)

never_go : (b c n : ℕ) → NeverStops b (replicate n (Go c))
never_go b c zero = tt
never_go b c (suc n) = ((λ e. absurd (cc)), never_go b c n)

nat_cases : (a b : ℕ) → (a ≡ b) ⊎ (a ≢ b)
nat_cases a b = elim (cases_Bool (a == b)) [
  | inl same ↦ inl (eqb-true a b same)
  | inr apart ↦ inr (eqb-false a b apart)
]

neither : (a b : Bool) → (a || b) ≡ false → (a ≡ false) × (b ≡ false)
neither true b e = absurd (cc)
neither false b e = (refl, e)

same_stop : (c b : ℕ) → Stop c ≡ Stop b → c ≡ b
same_stop c b e = cc

-- ---- it stays a worker

abbrev IsWorker : WorldData → ℕ → Type 0
IsWorker s b = (w : Walking) × Walks s b w

went_worker : (s : WorldData) (b c : ℕ) (o : Option Body) → slice_get s.bodies c ≡ o →
    IsWorker s b → IsWorker (went s c o) b
went_worker s b c None is w = w
went_worker s b c (Some (stopped n)) is w = w
went_worker s b c (Some (walks v)) is w =
    let new = told s.job s.layout v (answer s.words (ask_of s.job s.layout v)) in
    elim (nat_cases b c) [
      | inl same ↦ (
        new,
        subst (λ (k : ℕ). slice_get (slice_set s.bodies c (walks new)) k ≡ Some (walks new))
            (sym same) (get_set_same s.bodies c (walks new) (walks v) is),
      )
      | inr apart ↦ (w.0, get_set_other s.bodies c b (walks new) apart ∙ w.1)
    ]

back_worker : (s : WorldData) (b c : ℕ) (o : Option Body) → slice_get s.bodies c ≡ o →
    IsWorker s b → IsWorker (replaced s c (λ n. walks (come_back n)) o) b
back_worker s b c None is w = w
back_worker s b c (Some body) is w =
    let new = come_back (number body) in
    elim (nat_cases b c) [
      | inl same ↦ (
        new,
        subst (λ (k : ℕ). slice_get (slice_set s.bodies c (walks new)) k ≡ Some (walks new))
            (sym same) (get_set_same s.bodies c (walks new) body is),
      )
      | inr apart ↦ (w.0, get_set_other s.bodies c b (walks new) apart ∙ w.1)
    ]

stop_worker : (s : WorldData) (b c : ℕ) (o : Option Body) → b ≢ c → IsWorker s b →
    IsWorker (replaced s c stopped o) b
stop_worker s b c None apart w = w
stop_worker s b c (Some body) apart w =
    (w.0, get_set_other s.bodies c b (stopped (number body)) apart ∙ w.1)

happens_worker : (s : WorldData) (b : ℕ) (e : Event) → e ≢ Stop b →
    IsWorker s b → IsWorker (happens s e) b
happens_worker s b (Go c) other w = went_worker s b c (slice_get s.bodies c) refl w
happens_worker s b (Stop c) other w =
    stop_worker s b c (slice_get s.bodies c) (λ e. other (ap (λ k. Stop k) (sym e))) w
happens_worker s b (Back c) other w = back_worker s b c (slice_get s.bodies c) refl w

run_worker : (s : WorldData) (b : ℕ) (es : List Event) → NeverStops b es →
    IsWorker s b → IsWorker (run s es) b
run_worker s b [] never w = w
run_worker s b (e ∷ es) never w =
    run_worker (happens s e) b es never.1 (happens_worker s b e never.0 w)

start_at : (low n at : ℕ) → at < n →
    slice_get (map (λ w. walks (started w)) (range_with_len low n)) at
    ≡ Some (walks (started (low + at)))
start_at low zero at below = absurd (omega arith)
start_at low (suc n) zero below =
    ap (λ k. Some (walks (started k))) (let e : low ≡ low + 0 = omega arith in e)
start_at low (suc n) (suc at) below = start_at (low + 1) n at (omega arith)
    ∙ ap (λ k. Some (walks (started k))) (let e : low + 1 + at ≡ low + suc at = omega arith in e)

-- ---- the events of a plan

row_never : (row : Row) (b : ℕ) → (is_stop row.act && (row.worker == b)) ≡ false →
    NeverStops b (events_of_act world_events row.worker row.ticks row.act)
row_never row b none = by_act row.act none
  where
    by_act : (a : Act) → (is_stop a && (row.worker == b)) ≡ false →
        NeverStops b (events_of_act world_events row.worker row.ticks a)
    by_act act.Go h = never_go b row.worker row.ticks
    by_act act.Sleep h = tt
    by_act act.Back h = ((λ e. absurd (cc)), tt)
    by_act act.Stop h = ((λ e. eqb-false row.worker b h (same_stop row.worker b e)), tt)

rows_never : (rows : List Row) (b : ℕ) → stops rows b ≡ false →
    NeverStops b (events_of_rows world_events rows)
rows_never [] b none = tt
rows_never (row ∷ rows) b none =
    let both = neither (is_stop row.act && (row.worker == b)) (stops rows b) none in
    never_both b (events_of_act world_events row.worker row.ticks row.act)
    (events_of_rows world_events rows) (row_never row b both.0) (rows_never rows b both.1)

module _ (job : JobData) (workers : ℕ) where
  turns_never : (b c n : ℕ) (es : List Event) → NeverStops b es →
      NeverStops b (after_turns world_events (still_runs job workers) c n es)
  unfolding after_turns
  turns_never b c zero es h = h
  turns_never b c (suc n) es h =
      turns_never b (c + 1) n _ (turn_never (still_runs job workers es c))
    where
      turn_never : (v : Bool) → NeverStops b (if v then es ++ Go c ∷ [] else es)
      turn_never true = never_both b es (Go c ∷ []) h ((λ e. absurd (cc)), tt)
      turn_never false = h

  rounds_never : (b n : ℕ) (es : List Event) → NeverStops b es →
      NeverStops b (after_rounds world_events (still_runs job workers) workers n es)
  unfolding after_rounds
  rounds_never b zero es h = h
  rounds_never b (suc n) es h = rounds_never b n
      (after_turns world_events (still_runs job workers) 0 workers es)
      (turns_never b 0 workers es h)

  -- ---- so the outcome is unfinished only where the plan stops every worker

  told_end : (s : WorldData) (b : ℕ) (answer : RunAnswer) → Held s → IsWorker s b →
      going s b ≡ false → IsWorldOutcome s answer → IsUnfinished answer → ⊥
  told_end s b (Final cells) h w still outcome un = un
  told_end s b (Conflict fault) h w still outcome un = un
  told_end s b (Unfinished t) h w still outcome un =
      over_finished s h.made b w.0 t h.holds w.1 still outcome

  pub plan_stops : (rows : List Row) (n : ℕ) (answer : RunAnswer) →
      IsJob job → 1 ≤ workers → workers ≤ 64 →
      NoneRuns (still_runs job workers) workers
      (after_rounds world_events (still_runs job workers) workers n
      (events_of_rows world_events rows)) →
      IsWorldOutcome (run (start_compact job workers)
      (after_rounds world_events (still_runs job workers) workers n
      (events_of_rows world_events rows))) answer → IsUnfinished answer → (b : ℕ) →
      b < workers → stops rows b ≡ true
  plan_stops rows n answer limits some most none outcome un b below =
      elim (cases_Bool (stops rows b)) [
        | inl done ↦ done
        | inr left ↦ (let es = after_rounds world_events
            (still_runs job workers) workers n (events_of_rows world_events rows) in
            let never : NeverStops b es =
            rounds_never b n (events_of_rows world_events rows) (rows_never rows b left) in
            let w : IsWorker (run (start_compact job workers) es) b =
            run_worker (start_compact job workers)
            b es never (started (0 + b), start_at 0 workers b below) in
            let h : Held (run (start_compact job workers) es) =
            run_holds (start_compact job workers) es
            (record { made = empty; holds = holds_start job workers limits some most }) in
            absurd (told_end (run (start_compact job workers) es) b answer h w (none b below)
            outcome un))
      ]

-- ---- what a replay comes to

replayed_own : (job : JobData) (plan : PlanData) (n : ℕ) (s : WorldData)
    (rows : List TraceRow) (answer : RunAnswer) → IsJob job → 1 ≤ plan.workers → plan.workers ≤ 64 →
    IsAfterEvents job plan.workers (after_rounds world_events
    (still_runs job plan.workers) plan.workers n (events_of_rows world_events plan.rows)) s rows →
    ((b : ℕ) → b < plan.workers → going s b ≡ false) → IsWorldOutcome s answer →
    IsReplay job plan answer rows
replayed_own job plan n s rows answer limits some most is still outcome =
    let es = after_rounds world_events
    (still_runs job plan.workers) plan.workers n (events_of_rows world_events plan.rows) in
    let none : NoneRuns (still_runs job plan.workers) plan.workers es =
    λ b below. ap (λ x. going x b) (sym is.world) ∙ still b below in
    let told : IsWorldOutcome (run (start_compact job plan.workers) es) answer =
    subst (λ (x : WorldData). IsWorldOutcome x answer) is.world outcome in
    record {
      schedule = es;
      is = record { count = n; rounds = refl; over = none };
      outcome = told;
      steps = is.trace;
      stops = λ un b below.
          plan_stops job plan.workers plan.rows n answer limits some most none told un b below;
    }

pub replayed : (job : JobData) (plan : PlanData)
    (workers n : ℕ) (s : WorldData) (rows : List TraceRow) (answer : RunAnswer) →
    plan.workers ≡ workers → IsJob job → 1 ≤ workers → workers ≤ 64 →
    IsAfterEvents job workers (after_rounds world_events
    (still_runs job workers) workers n (events_of_rows world_events plan.rows)) s rows →
    ((b : ℕ) → b < workers → going s b ≡ false) → IsWorldOutcome s answer →
    IsReplay job plan answer rows
replayed job plan workers n s rows answer e = subst (λ (w : ℕ). IsJob job → 1 ≤ w → w ≤ 64 →
    IsAfterEvents job w
    (after_rounds world_events (still_runs job w) w n (events_of_rows world_events plan.rows)) s
    rows →
    ((b : ℕ) → b < w → going s b ≡ false) → IsWorldOutcome s answer → IsReplay job plan answer rows)
    e (replayed_own job plan n s rows answer)
