-- What a replay that is under way comes to: some replay has its steps in front.
use Rattle.std.proofs.Common.{◌≡◌, ℕ, zero, suc, ◌+◌, ◌-◌, ◌*◌, ◌/◌, ◌<◌, ◌≤◌, Bool, true}
use Rattle.std.proofs.Common.{false, if◌then◌else◌, List, [], ◌∷◌, ◌++◌, take, refl, sym}
use Rattle.std.proofs.Common.{ap, ap₂, subst, ◌∙◌, inl, inr, append_assoc, replicate, arith}
use Rattle.std.proofs.lemmas.Bool.{cases_Bool, cases_eq}
use Rattle.std.proofs.lemmas.List.{append-nil}
use Rattle.pram_job.specs.Job.{JobData, IsJob}
use Rattle.pram_step.specs.declared.answer.RunAnswer.{RunAnswer}
use Rattle.pram_step.specs.declared.answer.RunAnswer.TheVariants.{Final, Conflict, Unfinished}
use Rattle.pram_step.specs.Runs.{requests_after, state_after}
use Rattle.pram_step.proofs.LawDisputes.{agrees_or_dispute}
use Rattle.pram_words.specs.Words.{LayoutData}
use Rattle.stop_plan.specs.Plan.{PlanData}
use Rattle.stop_plan.specs.Schedule.{after_turns, after_rounds, events_of_rows}
use Rattle.walkx.specs.Bound.{own_step_bound}
use Rattle.walkx.specs.Records.{empty}
use Rattle.lawful_walk.specs.Board.{Stands, conflict, root}
use Rattle.pram_world.specs.declared.event.Event.{Event}
use Rattle.pram_world.specs.declared.event.Event.TheVariants.{Go}
use Rattle.pram_world.specs.Inner.Holding.{Held}
use Rattle.pram_world.specs.Outcomes.{IsWorldOutcome, IsTold}
use Rattle.pram_world.specs.Worlds.{WorldData, start_compact, run, happens, shown, going}
use Rattle.pram_world.proofs.Answering.{conflict_most, finished_clear, finished_last}
use Rattle.pram_world.proofs.Keeping.{holds_start, run_holds}
use Rattle.pram_run.specs.declared.schedule.Replaying.{Replaying}
use Rattle.pram_run.specs.declared.trace.TraceRow.{TraceRow}
use Rattle.pram_run.specs.Inner.Progress.{turn}
use Rattle.pram_run.specs.Inner.Underway.{AreEventsMade, HasCome, IsOver, ahead, with_rounds}
use Rattle.pram_run.specs.Replays.{IsReplay, still_runs, world_events}
use Rattle.pram_run.specs.Traces.{body_of_event, rows_of_effect, trace_of}
use Rattle.pram_run.proofs.Rounds.{rounds_fewer}
use Rattle.pram_run.proofs.Stops.{replayed}

-- ---- each board tells something

before : (u : ℕ) → (u ≡ 0 → ⊥) → (s : ℕ) × (u ≡ suc s)
before zero some = absurd (some refl)
before (suc s) some = (s, refl)

module _ (job : JobData) (y : LayoutData) (words : List ℕ) (stands : Stands job y words) where
  told_conflict : (conflict y words ≡ 0 → ⊥) → (answer : RunAnswer) × IsTold job y words answer
  told_conflict some =
      let b = before (conflict y words) some in
      let named = b.1 in
      let most = conflict_most job y words stands in
      let first = stands.lawful.named.first b.0 named in
      elim (agrees_or_dispute job (requests_after job b.0)) [
        | inl agrees ↦ absurd (first.1 agrees)
        | inr d ↦ (
          Conflict (record {
            step = b.0 + 1;
            cell = d.0.cell;
            first = d.0.first;
            second = d.0.second;
          }),
          (
            some,
            record {
              first = record { before = b.0; step = refl; reached = first.0; dispute = d.1 };
              within = omega (arith, named, most);
            },
          ),
        )
      ]

  told_clear : conflict y words ≡ 0 → (answer : RunAnswer) × IsTold job y words answer
  told_clear clear = elim (cases_eq (root y words) (3 * job.steps)) [
    | inl done ↦ (
      Final (take job.cells (state_after job job.steps)),
      (
        clear,
        done,
        (
          state_after job job.steps,
          record { reached = finished_last job y words stands clear done; state = refl },
          refl,
        ),
      ),
    )
    | inr left ↦ (
      Unfinished (root y words / 3),
      (clear, left, refl, finished_clear job y words stands clear),
    )
  ]

  has_told : (answer : RunAnswer) × IsTold job y words answer
  has_told = elim (cases_eq (conflict y words) 0) [
    | inl clear ↦ told_clear clear
    | inr some ↦ told_conflict some
  ]

-- ---- what is made later stands behind

trace_append : (s : WorldData) (es more : List Event) →
    trace_of s (es ++ more) ≡ trace_of s es ++ trace_of (run s es) more
unfolding trace_of
trace_append s [] more = refl
trace_append s (e ∷ es) more =
    ap (λ rows. rows_of_effect (body_of_event e) (shown s e) ++ rows)
    (trace_append (happens s e) es more)
    ∙ sym (append_assoc (rows_of_effect (body_of_event e) (shown s e)) (trace_of (happens s e) es)
    (trace_of (run (happens s e) es) more))

-- one list of events is the other and more
abbrev Extends : List Event → List Event → Type 0
Extends es later = (more : List Event) × (later ≡ es ++ more)

extends_none : (es : List Event) → Extends es es
extends_none es = ([], sym (append-nil es))

extends_both : (es next later : List Event) → Extends es next → Extends next later →
    Extends es later
extends_both es next later (one, is) (more, too) =
    (one ++ more, too ∙ ap (λ xs. xs ++ more) is ∙ append_assoc es one more)

module _ (job : JobData) (workers : ℕ) where
  turn_grows : (b : ℕ) (es : List Event) → Extends es (turn job workers b es)
  turn_grows b es = by (still_runs job workers es b)
    where
      by : (v : Bool) → Extends es (if v then es ++ Go b ∷ [] else es)
      by true = (Go b ∷ [], refl)
      by false = extends_none es

  turns_grow : (b n : ℕ) (es : List Event) →
      Extends es (after_turns world_events (still_runs job workers) b n es)
  unfolding after_turns
  turns_grow b zero es = extends_none es
  turns_grow b (suc n) es =
      extends_both es (turn job workers b es) _ (turn_grows b es)
      (turns_grow (b + 1) n (turn job workers b es))

  rounds_grow : (n : ℕ) (es : List Event) →
      Extends es (after_rounds world_events (still_runs job workers) workers n es)
  unfolding after_rounds
  rounds_grow zero es = extends_none es
  rounds_grow (suc n) es =
      extends_both es (after_turns world_events (still_runs job workers) 0 workers es) _
      (turns_grow 0 workers es)
      (rounds_grow n (after_turns world_events (still_runs job workers) 0 workers es))

  rounds_both : (n d : ℕ) (es : List Event) →
      after_rounds world_events (still_runs job workers) workers (n + d) es
      ≡ after_rounds world_events (still_runs job workers) workers d
      (after_rounds world_events (still_runs job workers) workers n es)
  unfolding after_rounds
  rounds_both zero d es =
      let same : 0 + d ≡ d = omega arith in
      ap (λ k. after_rounds world_events (still_runs job workers) workers k es) same
  rounds_both (suc n) d es =
      let one : suc n + d ≡ suc (n + d) = omega arith in
      ap (λ k. after_rounds world_events (still_runs job workers) workers k es) one
      ∙ rounds_both n d (after_turns world_events (still_runs job workers) 0 workers es)

  rounds_later : (n m : ℕ) (es : List Event) → n ≤ m →
      Extends (after_rounds world_events (still_runs job workers) workers n es)
      (after_rounds world_events (still_runs job workers) workers m es)
  rounds_later n m es le =
      let all : n + (m - n) ≡ m = omega (arith, le) in
      let some = after_rounds world_events (still_runs job workers) workers n es in
      let grown = rounds_grow (m - n) some in (
        grown.0,
        (ap (λ k. after_rounds world_events (still_runs job workers) workers k es) (sym all)
            ∙ rounds_both n (m - n) es ∙ grown.1),
      )

-- ---- the whole replay

module _ (job : JobData) (plan : PlanData) (limits : IsJob job) (some : 1 ≤ plan.workers)
    (most : plan.workers ≤ 64) where
  abbrev whole : List Event
  whole = with_rounds job plan (own_step_bound job)

  abbrev last : WorldData
  last = run (start_compact job plan.workers) whole

  none_goes : (b : ℕ) → b < plan.workers → going last b ≡ false
  none_goes b below = elim (cases_Bool (going last b)) [
    | inl goes ↦ (let less = rounds_fewer job plan.workers b (own_step_bound job)
        (events_of_rows world_events plan.rows) limits some most below goes in
        absurd (omega (arith, less)))
    | inr still ↦ still
  ]

  outcome : (answer : RunAnswer) × IsWorldOutcome last answer
  outcome =
      let held : Held last = run_holds (start_compact job plan.workers) whole
      (record { made = empty; holds = holds_start job plan.workers limits some most }) in
      has_told last.job last.layout last.words held.holds.stands

  pub whole_replay : (answer : RunAnswer)
      × IsReplay job plan answer (trace_of (start_compact job plan.workers) whole)
  whole_replay =
      let told = outcome in (
        told.0,
        replayed job plan plan.workers (own_step_bound job) last
            (trace_of (start_compact job plan.workers) whole) told.0 refl limits some most
            (record { world = refl; trace = refl }) none_goes told.1,
      )

  whole_extends : (now : Replaying) (made : List Event) → now.rounds ≤ own_step_bound job →
      AreEventsMade job plan now made → Extends made whole
  whole_extends now made le (inl (none, is)) =
      extends_both made (events_of_rows world_events plan.rows) whole (ahead now, sym is)
      (rounds_grow job plan.workers (own_step_bound job) (events_of_rows world_events plan.rows))
  whole_extends now made le (inr (none, rows, is)) =
      subst (λ es. Extends es whole) (sym is)
      (rounds_later job plan.workers now.rounds (own_step_bound job)
      (events_of_rows world_events plan.rows) le)

-- a replay whose first steps are these
pub record EndsWith (job : JobData) (plan : PlanData) (rows : List TraceRow) : Type 0 where
  pub answer : RunAnswer
  pub more : List TraceRow
  pub is : IsReplay job plan answer (rows ++ more)

pub comes_to : (job : JobData) (plan : PlanData) (now : Replaying) (rows : List TraceRow) →
    HasCome job plan now rows → EndsWith job plan rows
comes_to job plan now rows come =
    let all = whole_replay job plan come.limits come.some come.most in
    let left = whole_extends job plan come.limits come.some come.most now come.made come.rounds
    come.are in
    let first = start_compact job plan.workers in
    let parts : trace_of first (whole job plan come.limits come.some come.most)
    ≡ rows ++ trace_of (run first come.made) left.0 =
    ap (trace_of first) left.1 ∙ trace_append first come.made left.0
    ∙ ap (λ xs. xs ++ trace_of (run first come.made) left.0) (sym come.after.trace) in
    record {
      answer = all.0;
      more = trace_of (run first come.made) left.0;
      is = subst (λ (xs : List TraceRow). IsReplay job plan all.0 xs) parts all.1;
    }

-- ---- the end

pub made_over : (job : JobData) (plan : PlanData) (now : Replaying) (made : List Event) →
    now.ticks ≡ 0 → now.rows.now ≡ [] → AreEventsMade job plan now made →
    made ≡ with_rounds job plan now.rounds
unfolding after_rounds
made_over job plan now made ticks rows (inl (none, is)) =
    let nothing : ahead now ≡ [] =
    ap₂ (λ n rs. replicate n (Go now.worker) ++ events_of_rows world_events rs) ticks rows in
    let all : made ≡ events_of_rows world_events plan.rows =
    sym (append-nil made) ∙ ap (λ xs. made ++ xs) (sym nothing) ∙ is in
    all ∙ ap (λ n. with_rounds job plan n) (sym none)
made_over job plan now made ticks rows (inr (none, over, is)) = is

pub ended : (job : JobData) (plan : PlanData) (now : Replaying) (rows : List TraceRow)
    (answer : RunAnswer) → HasCome job plan now rows → IsOver now →
    IsWorldOutcome now.world answer →
    IsReplay job plan answer rows
ended job plan now rows answer come over outcome =
    let made = made_over job plan now come.made over.ticks over.rows come.are in
    replayed job plan plan.workers now.rounds now.world rows answer refl come.limits come.some
    come.most
    (record {
      world = come.after.world ∙ ap (run (start_compact job plan.workers)) made;
      trace = come.after.trace ∙ ap (trace_of (start_compact job plan.workers)) made;
    })
    (λ b below. over.none b (omega (arith, below, come.workers))) outcome
