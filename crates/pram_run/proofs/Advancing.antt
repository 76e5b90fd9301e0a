-- What a part of a row, a row that is begun, and a round make of a replay that is under way.
use Rattle.std.proofs.Common.{◌≡◌, ℕ, ◌+◌, ◌-◌, ◌<◌, ◌≤◌, true, false}
use Rattle.std.proofs.Common.{List, [], ◌∷◌, ◌++◌, replicate, refl, sym, ap, ap₂, subst, ◌∙◌}
use Rattle.std.proofs.Common.{inl, inr, append_assoc, length, arith}
use Rattle.std.proofs.lemmas.List.{append-nil, replicate-append-replicate}
use Rattle.pram_job.specs.Job.{JobData, IsJob}
use Rattle.stop_plan.specs.declared.plan.Act.{Act}
use Rattle.stop_plan.specs.declared.plan.Act.TheVariants as act
use Rattle.stop_plan.specs.declared.plan.Row.{Row}
use Rattle.stop_plan.specs.Plan.{PlanData}
use Rattle.stop_plan.specs.Schedule.{after_turns, events_of_act, events_of_rows}
use Rattle.walkx.specs.Bound.{own_step_bound}
use Rattle.pram_world.specs.declared.event.Event.{Event}
use Rattle.pram_world.specs.declared.event.Event.TheVariants.{Go}
use Rattle.pram_world.specs.Worlds.{WorldData, run, start_compact, going}
use Rattle.pram_run.specs.declared.schedule.Replaying.{Replaying}
use Rattle.pram_run.specs.declared.trace.TraceRow.{TraceRow}
use Rattle.pram_run.specs.Inner.Progress.{IsAfterEvents}
use Rattle.pram_run.specs.Inner.Underway.{AreEventsMade, Further, HasCome, ahead}
use Rattle.pram_run.specs.Inner.Underway.{row_parts, with_rounds}
use Rattle.pram_run.specs.Replays.{still_runs, world_events}
use Rattle.pram_run.proofs.After.{rounds_more}
use Rattle.pram_run.proofs.Rounds.{rounds_fewer}
use Rattle.pram_run.proofs.Whole.{made_over}

-- ---- the rows

-- what is ahead, by its parts
ahead_by : (now : Replaying) (ticks worker : ℕ) (rows : List Row) → now.ticks ≡ ticks →
    now.worker ≡ worker → now.rows.now ≡ rows →
    ahead now ≡ replicate ticks (Go worker) ++ events_of_rows world_events rows
ahead_by now ticks worker rows t w r =
    ap₂ (λ n b. replicate n (Go b) ++ events_of_rows world_events now.rows.now) t w
    ∙ ap (λ rs. replicate ticks (Go worker) ++ events_of_rows world_events rs) r

pub no_rows : (rows : List Row) → length rows ≡ 0 → rows ≡ []
no_rows [] none = refl
no_rows (row ∷ rows) none = absurd (omega (arith, none))

-- while rows are left, all events so far are theirs
of_rows : (job : JobData) (plan : PlanData) (now : Replaying) (made : List Event) →
    (now.ticks ≡ 0 → now.rows.now ≡ [] → ⊥) → AreEventsMade job plan now made →
    (now.rounds ≡ 0) × (made ++ ahead now ≡ events_of_rows world_events plan.rows)
of_rows job plan now made left (inl are) = are
of_rows job plan now made left (inr are) = absurd (left are.0 are.1)

-- so many events more of those ahead are made
module _ (job : JobData) (plan : PlanData) (now next : Replaying) (rows later : List TraceRow)
    (come : HasCome job plan now rows) (left : now.ticks ≡ 0 → now.rows.now ≡ [] → ⊥)
    (workers : next.workers ≡ now.workers) (rounds : next.rounds ≡ now.rounds) where
  pub made_more : (events : List Event) → ahead now ≡ events ++ ahead next →
      IsAfterEvents job plan.workers (come.made ++ events) next.world later →
      HasCome job plan next later
  made_more events is after =
      let are = of_rows job plan now come.made left come.are in
      record {
        limits = come.limits;
        some = come.some;
        most = come.most;
        workers = come.workers ∙ sym workers;
        made = come.made ++ events;
        are = inl (
          rounds ∙ are.0,
          append_assoc come.made events (ahead next)
              ∙ ap (λ xs. come.made ++ xs) (sym is) ∙ are.1,
        );
        after = after;
        rounds = subst (λ n. n ≤ own_step_bound job) (sym rounds) come.rounds;
      }

-- ---- a part of a row

split_go : (n p : ℕ) (g : Event) (es : List Event) → p ≤ n →
    replicate n g ++ es ≡ replicate p g ++ (replicate (n - p) g ++ es)
split_go n p g es le =
    let all : n ≡ p + (n - p) = omega (arith, le) in
    ap (λ k. replicate k g ++ es) all
    ∙ ap (λ xs. xs ++ es) (sym (replicate-append-replicate p (n - p) g))
    ∙ append_assoc (replicate p g) (replicate (n - p) g) es

module _ (job : JobData) (plan : PlanData) (now next : Replaying) (rows later : List TraceRow)
    (come : HasCome job plan now rows) (some : 0 < now.ticks)
    (workers : next.workers ≡ now.workers) (worker : next.worker ≡ now.worker)
    (same : next.rows.now ≡ now.rows.now) (rounds : next.rounds ≡ now.rounds) where
  left : now.ticks ≡ 0 → now.rows.now ≡ [] → ⊥
  left none empty = absurd (omega (arith, some, none))

  further : (events : List Event) → next.ticks < now.ticks → ahead now ≡ events ++ ahead next →
      IsAfterEvents job plan.workers (come.made ++ events) next.world later →
      Further job plan now next later true
  further events less is after = record {
    come = made_more job plan now next rows later come left workers rounds events is after;
    fewer = λ _.
        let alike : row_parts next.rows.now ≡ row_parts now.rows.now = ap row_parts same in
        let still : own_step_bound job - next.rounds ≡ own_step_bound job - now.rounds =
        ap (λ n. own_step_bound job - n) rounds in
        omega (arith, less, alike, still);
    over = λ e. absurd (cc);
  }

  -- its worker goes on
  pub part_made : (part : ℕ) → 0 < part → part ≤ now.ticks → next.ticks ≡ now.ticks - part →
      IsAfterEvents job plan.workers (come.made ++ replicate part (Go now.worker)) next.world
      later →
      Further job plan now next later true
  part_made part few within ticks after =
      let after_it = ahead_by next (now.ticks - part) now.worker now.rows.now ticks worker same in
      further (replicate part (Go now.worker)) (omega (arith, few, within, ticks))
      (split_go now.ticks part (Go now.worker) (events_of_rows world_events now.rows.now) within
      ∙ ap (λ xs. replicate part (Go now.worker) ++ xs) (sym after_it)) after

  -- its worker does not go on, so the steps that are left are none
  pub row_over : next.ticks ≡ 0 →
      IsAfterEvents job plan.workers (come.made ++ replicate now.ticks (Go now.worker)) next.world
      later →
      Further job plan now next later true
  row_over ticks after =
      let after_it = ahead_by next 0 now.worker now.rows.now ticks worker same in
      further (replicate now.ticks (Go now.worker)) (omega (arith, some, ticks))
      (ap (λ xs. replicate now.ticks (Go now.worker) ++ xs) (sym after_it)) after

-- ---- a row that is begun

module _ (job : JobData) (plan : PlanData) (now next : Replaying) (rows : List TraceRow)
    (come : HasCome job plan now rows) (row : Row) (rest : List Row)
    (none : now.ticks ≡ 0) (begun : now.rows.now ≡ row ∷ rest)
    (workers : next.workers ≡ now.workers) (rounds : next.rounds ≡ now.rounds)
    (later : next.rows.now ≡ rest) where
  left_row : now.ticks ≡ 0 → now.rows.now ≡ [] → ⊥
  left_row ticks empty = absurd (let e = sym begun ∙ empty in cc)

  -- what is ahead begins with the row's events
  with_row : ahead now
      ≡ events_of_act world_events row.worker row.ticks row.act ++ events_of_rows world_events rest
  with_row = ahead_by now 0 now.worker (row ∷ rest) none refl begun

  pub row_begun : (events : List Event) → next.ticks ≤ row.ticks →
      ahead now ≡ events ++ ahead next →
      IsAfterEvents job plan.workers (come.made ++ events) next.world rows →
      Further job plan now next rows true
  row_begun events few is after = record {
    come = made_more job plan now next rows rows come left_row workers rounds events is after;
    fewer = λ _.
        let these : row_parts now.rows.now ≡ row.ticks + 1 + row_parts rest =
        ap row_parts begun in
        let those : row_parts next.rows.now ≡ row_parts rest = ap row_parts later in
        let still : own_step_bound job - next.rounds ≡ own_step_bound job - now.rounds =
        ap (λ n. own_step_bound job - n) rounds in
        omega (arith, few, none, these, those, still);
    over = λ e. absurd (cc);
  }

  -- its steps are still to be made
  pub begun_go : row.act ≡ act.Go → next.ticks ≡ row.ticks → next.worker ≡ row.worker →
      next.world ≡ now.world → Further job plan now next rows true
  begun_go go ticks worker world =
      let is : ahead now ≡ replicate row.ticks (Go row.worker) ++ events_of_rows world_events rest =
      with_row ∙ ap (λ (a : Act). events_of_act world_events row.worker row.ticks a
      ++ events_of_rows world_events rest) go in
      let after_it = ahead_by next row.ticks row.worker rest ticks worker later in
      row_begun [] (omega (arith, ticks)) (is ∙ sym after_it)
      (subst (λ (w : WorldData). IsAfterEvents job plan.workers (come.made ++ []) w rows)
      (sym world)
      (subst (λ (es : List Event). IsAfterEvents job plan.workers es now.world rows)
      (sym (append-nil come.made)) come.after))

  -- all that it asks is done
  pub begun_done : (events : List Event) → next.ticks ≡ 0 →
      events_of_act world_events row.worker row.ticks row.act ≡ events →
      IsAfterEvents job plan.workers (come.made ++ events) next.world rows →
      Further job plan now next rows true
  begun_done events ticks asks after =
      let after_it = ahead_by next 0 next.worker rest ticks refl later in
      row_begun events (omega (arith, ticks))
      (with_row ∙ ap₂ (λ xs ys. xs ++ ys) asks (sym after_it)) after

-- ---- a round

module _ (job : JobData) (plan : PlanData) (now : Replaying) (rows : List TraceRow)
    (come : HasCome job plan now rows) (ticks : now.ticks ≡ 0) (none : now.rows.now ≡ []) where
  made_all : come.made ≡ with_rounds job plan now.rounds
  made_all = made_over job plan now come.made ticks none come.are

  -- in a round that is made some worker goes
  pub round_left : (b : ℕ) → b < now.workers → going now.world b ≡ true →
      now.rounds < own_step_bound job
  round_left b below goes =
      let runs : still_runs job plan.workers (with_rounds job plan now.rounds) b ≡ true =
      ap (λ (es : List Event). going (run (start_compact job plan.workers) es) b) (sym made_all)
      ∙ ap (λ (w : WorldData). going w b) (sym come.after.world) ∙ goes in
      rounds_fewer job plan.workers b now.rounds (events_of_rows world_events plan.rows)
      come.limits come.some come.most (omega (arith, below, come.workers)) runs

  pub round_made : (next : Replaying) (later : List TraceRow) → now.rounds < own_step_bound job →
      next.rounds ≡ now.rounds + 1 → next.ticks ≡ now.ticks → next.rows.now ≡ now.rows.now →
      next.workers ≡ now.workers →
      IsAfterEvents job plan.workers
      (after_turns world_events (still_runs job plan.workers) 0 now.workers come.made)
      next.world later →
      Further job plan now next later true
  round_made next later less rounds same rest workers after =
      let made : after_turns world_events (still_runs job plan.workers) 0 now.workers come.made
      ≡ with_rounds job plan next.rounds =
      ap₂ (λ n es. after_turns world_events (still_runs job plan.workers) 0 n es)
      (sym come.workers) made_all
      ∙ sym (rounds_more job plan.workers now.rounds (events_of_rows world_events plan.rows))
      ∙ ap (λ n. with_rounds job plan n) (sym rounds) in
      record {
        come = record {
          limits = come.limits;
          some = come.some;
          most = come.most;
          workers = come.workers ∙ sym workers;
          made = after_turns world_events (still_runs job plan.workers) 0 now.workers come.made;
          are = inr (same ∙ ticks, rest ∙ none, made);
          after = after;
          rounds = omega (arith, less, rounds);
        };
        fewer = λ _.
            let alike : row_parts next.rows.now ≡ row_parts now.rows.now = ap row_parts rest in
            omega (arith, less, rounds, same, alike);
        over = λ e. absurd (cc);
      }

  -- no round is left
  pub rounds_over : ((b : ℕ) → b < now.workers → going now.world b ≡ false) →
      Further job plan now now rows false
  rounds_over still = record {
    come = come;
    fewer = λ e. absurd (cc);
    over = λ _. record { ticks = ticks; rows = none; none = still };
  }

-- ---- the start

pub starts : (job : JobData) (plan : PlanData) (now : Replaying) → IsJob job →
    1 ≤ plan.workers → plan.workers ≤ 64 → plan.workers ≡ now.workers → now.ticks ≡ 0 →
    now.rounds ≡ 0 → now.rows.now ≡ plan.rows →
    IsAfterEvents job plan.workers [] now.world [] → HasCome job plan now []
starts job plan now limits some most workers ticks rounds rows after = record {
  limits = limits;
  some = some;
  most = most;
  workers = workers;
  made = [];
  are = inl (rounds, ahead_by now 0 now.worker plan.rows ticks refl rows);
  after = after;
  rounds = omega (arith, rounds);
}
