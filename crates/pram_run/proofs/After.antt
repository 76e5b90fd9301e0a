-- What one event more, or several, make of a world and its trace.
use Rattle.std.proofs.Common.{◌≡◌, ℕ, zero, suc, ◌+◌, ◌-◌, ◌≤◌, Bool, true}
use Rattle.std.proofs.Common.{false, if◌then◌else◌, List, [], ◌∷◌, ◌++◌, replicate}
use Rattle.std.proofs.Common.{Result, Ok, Err, OnOk, refl}
use Rattle.std.proofs.Common.{sym, ap, ap₂, subst, ◌∙◌, append_assoc, arith}
use Rattle.std.proofs.lemmas.List.{append-nil}
use Rattle.pram_job.specs.Job.{JobData}
use Rattle.stop_plan.specs.Schedule.{after_turns, after_rounds}
use Rattle.pram_world.specs.declared.event.Effect.{Effect}
use Rattle.pram_world.specs.declared.event.Event.{Event}
use Rattle.pram_world.specs.declared.event.Event.TheVariants.{Go}
use Rattle.pram_world.specs.Worlds.{WorldData, start_compact, run, happens, shown, going, nothing}
use Rattle.pram_world.proofs.Keeping.{run_more}
use Rattle.pram_world.proofs.Overs.{idle}
use Rattle.pram_run.specs.declared.trace.TraceRow.{TraceRow}
use Rattle.pram_run.specs.Inner.Progress.{IsAfterEvents, turn}
use Rattle.pram_run.specs.Replays.{still_runs, world_events}
use Rattle.pram_run.specs.Traces.{body_of_event, rows_of_effect, trace_of}

pub on_ok : {X E A B : Type 0} → (r : Result X E) → OnOk r A → (A → B) → OnOk r B
on_ok (Ok x) a f = f a
on_ok (Err e) a f = tt

trace_more : (s : WorldData) (es : List Event) (e : Event) →
    trace_of s (es ++ e ∷ []) ≡ trace_of s es
    ++ rows_of_effect (body_of_event e) (shown (run s es) e)
unfolding trace_of
trace_more s [] e = append-nil (rows_of_effect (body_of_event e) (shown s e))
trace_more s (x ∷ es) e =
    ap (λ rows. rows_of_effect (body_of_event x) (shown s x) ++ rows)
    (trace_more (happens s x) es e)
    ∙ sym (append_assoc (rows_of_effect (body_of_event x) (shown s x)) (trace_of (happens s x) es)
    (rows_of_effect (body_of_event e) (shown (run (happens s x) es) e)))

module _ (job : JobData) (workers : ℕ) where
  -- one event
  pub after_more : (es : List Event) (s now : WorldData) (rows later : List TraceRow) (e : Event) →
      IsAfterEvents job workers es s rows →
      now ≡ happens s e → later ≡ rows ++ rows_of_effect (body_of_event e) (shown s e) →
      IsAfterEvents job workers (es ++ e ∷ []) now later
  after_more es s now rows later e b is listed = record {
    world = is ∙ ap (λ x. happens x e) b.world ∙ sym (run_more (start_compact job workers) es e);
    trace = listed ∙ ap₂ (λ xs x. xs ++ rows_of_effect (body_of_event e) (shown x e)) b.trace
        b.world
        ∙ sym (trace_more (start_compact job workers) es e);
  }

  -- one that is no atomic step
  pub after_quiet : (es : List Event) (s now : WorldData) (rows : List TraceRow) (e : Event) →
      IsAfterEvents job workers es s rows → now ≡ happens s e → shown s e ≡ nothing →
      IsAfterEvents job workers (es ++ e ∷ []) now rows
  after_quiet es s now rows e b is none = after_more es s now rows rows e b is
      (sym (append-nil rows) ∙ ap (λ (x : Effect). rows ++ rows_of_effect (body_of_event e) x)
      (sym none))

  -- steps of a body that is not going
  pub after_idle : (es : List Event) (s : WorldData) (rows : List TraceRow) (b : ℕ) →
      IsAfterEvents job workers es s rows → going s b ≡ false →
      IsAfterEvents job workers (es ++ Go b ∷ []) s rows
  after_idle es s rows b is still =
      let i = idle s b still in after_quiet es s s rows (Go b) is (sym i.0) i.1

  -- ---- several steps of one body

  rep_more : (n : ℕ) (e : Event) → replicate n e ++ e ∷ [] ≡ replicate (n + 1) e
  rep_more zero e = refl
  rep_more (suc n) e =
      let one : suc (n + 1) ≡ suc n + 1 = omega arith in
      ap (λ xs. e ∷ xs) (rep_more n e) ∙ ap (λ k. replicate k e) one

  one_more : (es : List Event) (n : ℕ) (e : Event) →
      (es ++ replicate n e) ++ e ∷ [] ≡ es ++ replicate (n + 1) e
  one_more es n e = append_assoc es (replicate n e) (e ∷ []) ∙ ap (λ xs. es ++ xs) (rep_more n e)

  after_rest : (es : List Event) (s : WorldData) (rows : List TraceRow) (b i d : ℕ) →
      IsAfterEvents job workers (es ++ replicate i (Go b)) s rows → going s b ≡ false →
      IsAfterEvents job workers (es ++ replicate (i + d) (Go b)) s rows
  after_rest es s rows b i zero is still =
      let none : i ≡ i + 0 = omega arith in
      subst (λ (n : ℕ). IsAfterEvents job workers (es ++ replicate n (Go b)) s rows) none is
  after_rest es s rows b i (suc d) is still =
      let one : i + d + 1 ≡ i + suc d = omega arith in
      subst (λ (n : ℕ). IsAfterEvents job workers (es ++ replicate n (Go b)) s rows) one
      (subst (λ (xs : List Event). IsAfterEvents job workers xs s rows) (one_more es (i + d) (Go b))
      (after_idle (es ++ replicate (i + d) (Go b)) s rows b
      (after_rest es s rows b i d is still) still))

  -- the steps that are left once it is not going
  pub after_all : (es : List Event) (s : WorldData) (rows : List TraceRow) (b i n : ℕ) → i ≤ n →
      IsAfterEvents job workers (es ++ replicate i (Go b)) s rows → going s b ≡ false →
      IsAfterEvents job workers (es ++ replicate n (Go b)) s rows
  after_all es s rows b i n le is still =
      let all : i + (n - i) ≡ n = omega arith in
      subst (λ (k : ℕ). IsAfterEvents job workers (es ++ replicate k (Go b)) s rows) all
      (after_rest es s rows b i (n - i) is still)

  pub after_next : (es : List Event) (s : WorldData) (rows : List TraceRow) (b n : ℕ) →
      IsAfterEvents job workers ((es ++ replicate n (Go b)) ++ Go b ∷ []) s rows →
      IsAfterEvents job workers (es ++ replicate (n + 1) (Go b)) s rows
  after_next es s rows b n is =
      subst (λ (xs : List Event). IsAfterEvents job workers xs s rows) (one_more es n (Go b)) is

  pub after_none : (es : List Event) (s : WorldData) (rows : List TraceRow) →
      IsAfterEvents job workers es s rows → IsAfterEvents job workers (es ++ []) s rows
  after_none es s rows is =
      subst (λ (xs : List Event). IsAfterEvents job workers xs s rows) (sym (append-nil es)) is

  -- ---- turns and rounds

  turns_more : (b n : ℕ) (es : List Event) →
      after_turns world_events (still_runs job workers) b (n + 1) es
      ≡ turn job workers (b + n) (after_turns world_events (still_runs job workers) b n es)
  unfolding after_turns
  turns_more b zero es = let none : b ≡ b + 0 = omega arith in ap (λ k. turn job workers k es) none
  turns_more b (suc n) es =
      let same : b + 1 + n ≡ b + suc n = omega arith in
      let one : suc n + 1 ≡ suc (n + 1) = omega arith in
      ap (λ k. after_turns world_events (still_runs job workers) b k es) one
      ∙ turns_more (b + 1) n (turn job workers b es)
      ∙ ap (λ k. turn job workers k
      (after_turns world_events (still_runs job workers) (b + 1) n (turn job workers b es))) same

  pub turns_next : (n : ℕ) (es : List Event) →
      after_turns world_events (still_runs job workers) 0 (n + 1) es
      ≡ turn job workers n (after_turns world_events (still_runs job workers) 0 n es)
  turns_next n es =
      let same : 0 + n ≡ n = omega arith in turns_more 0 n es
      ∙ ap (λ k. turn job workers k (after_turns world_events (still_runs job workers) 0 n es)) same

  pub rounds_more : (n : ℕ) (es : List Event) →
      after_rounds world_events (still_runs job workers) workers (n + 1) es
      ≡ after_turns world_events
      (still_runs job workers) 0 workers
      (after_rounds world_events (still_runs job workers) workers n es)
  unfolding after_rounds
  rounds_more zero es = refl
  rounds_more (suc n) es =
      let one : suc n + 1 ≡ suc (n + 1) = omega arith in
      ap (λ k. after_rounds world_events (still_runs job workers) workers k es) one
      ∙ rounds_more n (after_turns world_events (still_runs job workers) 0 workers es)

  -- a turn that was taken, and one that was not
  pub turn_taken : (es : List Event) (s now : WorldData) (rows later : List TraceRow) (b : ℕ) →
      IsAfterEvents job workers es s rows →
      going s b ≡ true → IsAfterEvents job workers (es ++ Go b ∷ []) now later →
      IsAfterEvents job workers (turn job workers b es) now later
  turn_taken es s now rows later b is goes next =
      let runs : still_runs job workers es b ≡ true = ap (λ x. going x b) (sym is.world) ∙ goes in
      subst (λ (t : Bool). IsAfterEvents job workers (if t then es ++ Go b ∷ [] else es) now later)
      (sym runs) next

  pub turn_left : (es : List Event) (s : WorldData) (rows : List TraceRow) (b : ℕ) →
      IsAfterEvents job workers es s rows → going s b ≡ false →
      IsAfterEvents job workers (turn job workers b es) s rows
  turn_left es s rows b is still =
      let runs : still_runs job workers es b ≡ false = ap (λ x. going x b) (sym is.world) ∙ still in
      subst (λ (t : Bool). IsAfterEvents job workers (if t then es ++ Go b ∷ [] else es) s rows)
      (sym runs) is
