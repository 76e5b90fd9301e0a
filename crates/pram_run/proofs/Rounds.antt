-- How many rounds there are: a worker that still goes has made a step in each.
use Rattle.std.proofs.Common.{◌≡◌, ◌≢◌, ◌⊎◌, ℕ, zero, suc, ◌+◌, ◌^◌, ◌<◌, ◌≤◌, Bool}
use Rattle.std.proofs.Common.{true, false, if◌then◌else◌, List, [], ◌∷◌, ◌++◌, Some}
use Rattle.std.proofs.Common.{refl, sym, ap, subst, ◌∙◌, inl, inr, arith}
use Rattle.std.proofs.lemmas.Bool.{cases_Bool, cases_lt}
use Rattle.pram_job.specs.Job.{JobData, IsJob}
use Rattle.pram_words.specs.declared.layout.Form.TheVariants.{Compact}
use Rattle.pram_words.specs.Words.{layout_of}
use Rattle.stop_plan.specs.Schedule.{after_turns, after_rounds}
use Rattle.walkx.specs.Bound.{own_step_bound}
use Rattle.walkx.specs.Operations.{answer}
use Rattle.walkx.specs.Records.{Record, empty}
use Rattle.walkx.specs.Walk.{ask_of, told}
use Rattle.pram_world.specs.declared.event.Event.{Event}
use Rattle.pram_world.specs.declared.event.Event.TheVariants.{Go}
use Rattle.pram_world.specs.Inner.Holding.{WorldHolds}
use Rattle.pram_world.specs.Worlds.{WorldData, walks, start_compact, run, went, happens, going}
use Rattle.pram_world.specs.Worlds.{body_goes}
use Rattle.pram_world.proofs.Counting.{Counted, counted_none, counted_own}
use Rattle.pram_world.proofs.Counting.{counted_other, lengthened, get_set_other}
use Rattle.pram_world.proofs.Counting.{goer, fewer, bound_small, run_board}
use Rattle.pram_world.specs.Inner.Holding.{Held}
use Rattle.pram_world.proofs.Keeping.{holds_start, holds_step, run_holds, run_more}
use Rattle.pram_run.specs.Replays.{still_runs, world_events}
use Rattle.pram_run.specs.Inner.Progress.{turn}
use Rattle.pram_run.proofs.After.{rounds_more}

-- where body b is still going, the record of the world has n steps of it
pub record Tracks (s : WorldData) (b n : ℕ) : Type 0 where
  pub made : Record
  pub holds : WorldHolds s made
  pub counted : going s b ≡ true → Counted s made b n

pub tracks_none : (s : WorldData) (b : ℕ) → Held s → Tracks s b 0
tracks_none s b h = record {
  made = h.made;
  holds = h.holds;
  counted = λ goes. counted_none s h.made b h.holds (goer s b goes);
}

module _ (s : WorldData) (b n c : ℕ) (goes_c : going s c ≡ true) (t : Tracks s b n) where
  -- the world after the step, and that it is the one of the definitions
  same_next : let g = goer s c goes_c in went s c (Some (walks g.worker)) ≡ happens s (Go c)
  same_next = let g = goer s c goes_c in ap (went s c) (sym g.walks)

  holds_next : let g = goer s c goes_c in
      WorldHolds (went s c (Some (walks g.worker))) (lengthened s t.made g.worker)
  holds_next = let g = goer s c goes_c in holds_step s t.made c g.worker g.walks t.holds

  -- a step of the body itself
  pub tracks_own : c ≡ b → Tracks (happens s (Go c)) b (n + 1)
  tracks_own same =
      let g = goer s c goes_c in
      subst (λ (x : WorldData). Tracks x b (n + 1)) same_next (record {
        made = lengthened s t.made g.worker;
        holds = holds_next;
        counted = λ later. subst (λ (k : ℕ). Counted (went s c (Some (walks g.worker)))
            (lengthened s t.made g.worker) k (n + 1)) same
            (counted_own s t.made c n g.worker g.walks (subst (λ (k : ℕ). Counted s t.made k n)
            (sym same) (t.counted (subst (λ (k : ℕ). going s k ≡ true) same goes_c))));
      })

  -- of another
  pub tracks_other : b ≢ c → Tracks (happens s (Go c)) b n
  tracks_other apart =
      let g = goer s c goes_c in
      let new =
      walks (told s.job s.layout g.worker (answer s.words (ask_of s.job s.layout g.worker))) in
      subst (λ (x : WorldData). Tracks x b n) same_next (record {
        made = lengthened s t.made g.worker;
        holds = holds_next;
        counted = λ later. counted_other s t.made b n c g.worker apart
            (t.counted (ap body_goes (sym (get_set_other s.bodies c b new apart)) ∙ later));
      })

module _ (job : JobData) (workers : ℕ) where
  abbrev After : List Event → WorldData
  After es = run (start_compact job workers) es

  -- ---- a turn

  turn_other : (b n c : ℕ) (es : List Event) → b ≢ c → Tracks (After es) b n →
      Tracks (After (turn job workers c es)) b n
  turn_other b n c es apart t = elim (cases_Bool (still_runs job workers es c)) [
    | inl runs ↦
        subst (λ (v : Bool). Tracks (After (if v then es ++ Go c ∷ [] else es)) b n) (sym runs)
        (subst (λ (x : WorldData). Tracks x b n)
        (sym (run_more (start_compact job workers) es (Go c)))
        (tracks_other (After es) b n c runs t apart))
    | inr still ↦
        subst (λ (v : Bool). Tracks (After (if v then es ++ Go c ∷ [] else es)) b n) (sym still) t
  ]

  turn_own : (b n : ℕ) (es : List Event) → Tracks (After es) b n →
      Tracks (After (turn job workers b es)) b (n + 1)
  turn_own b n es t = elim (cases_Bool (still_runs job workers es b)) [
    | inl runs ↦ subst (λ (v : Bool). Tracks (After (if v then es ++ Go b ∷ [] else es)) b (n + 1))
        (sym runs) (subst (λ (x : WorldData). Tracks x b (n + 1))
        (sym (run_more (start_compact job workers) es (Go b)))
        (tracks_own (After es) b n b runs t refl))
    | inr still ↦ subst (λ (v : Bool). Tracks (After (if v then es ++ Go b ∷ [] else es)) b (n + 1))
        (sym still)
        (record { made = t.made; holds = t.holds; counted = λ goes. absurd (apart goes still) })
  ]
    where
      apart : {v : Bool} → v ≡ true → v ≡ false → ⊥
      apart runs still = absurd (cc)

  -- ---- a round

  turns_out : (b n c k : ℕ) (es : List Event) → (b < c) ⊎ (c + k ≤ b) → Tracks (After es) b n →
      Tracks (After (after_turns world_events (still_runs job workers) c k es)) b n
  unfolding after_turns
  turns_out b n c zero es out t = t
  turns_out b n c (suc k) es out t =
      let apart : b ≢ c =
      λ e. absurd (elim out [ inl less ↦ omega arith | inr more ↦ omega arith ]) in
      let next : (b < c + 1) ⊎ (c + 1 + k ≤ b) =
      elim out [ inl less ↦ inl (omega arith) | inr more ↦ inr (omega arith) ] in
      turns_out b n (c + 1) k (turn job workers c es) next (turn_other b n c es apart t)

  turns_in : (b n c k : ℕ) (es : List Event) → c ≤ b → b < c + k → Tracks (After es) b n →
      Tracks (After (after_turns world_events (still_runs job workers) c k es)) b (n + 1)
  unfolding after_turns
  turns_in b n c zero es low high t = absurd (omega arith)
  turns_in b n c (suc k) es low high t = elim (cases_lt c b) [
    | inl less ↦ (let apart : b ≢ c = λ e. absurd (omega arith) in turns_in b n
        (c + 1) k (turn job workers c es) (omega arith) (omega arith) (turn_other b n c es apart t))
    | inr more ↦ (let same : b ≡ c = omega arith in
        let one : Tracks (After (turn job workers c es)) b (n + 1) = subst
        (λ (x : ℕ). Tracks (After (turn job workers x es)) b (n + 1)) same (turn_own b n es t) in
        turns_out b (n + 1) (c + 1) k (turn job workers c es) (inl (omega arith)) one)
  ]

  rounds_track : (b n : ℕ) (es : List Event) → b < workers → Held (After es) →
      Tracks (After (after_rounds world_events (still_runs job workers) workers n es)) b n
  unfolding after_rounds
  rounds_track b zero es below h = tracks_none (After es) b h
  rounds_track b (suc n) es below h =
      let one : n + 1 ≡ suc n = omega arith in
      let next : Tracks (After (after_turns world_events (still_runs job workers) 0 workers
      (after_rounds world_events (still_runs job workers) workers n es))) b (n + 1) =
      turns_in b n 0 workers (after_rounds world_events (still_runs job workers) workers n es)
      (omega arith) (omega arith) (rounds_track b n es below h) in
      subst (λ (k : ℕ).
      Tracks (After (after_rounds world_events (still_runs job workers) workers k es)) b k) one
      (subst (λ (xs : List Event). Tracks (After xs) b (n + 1))
      (sym (rounds_more job workers n es)) next)

  -- so there are fewer rounds than the own-step bound before one in which some worker goes
  pub rounds_fewer : (b n : ℕ) (es : List Event) →
      IsJob job → 1 ≤ workers → workers ≤ 64 → b < workers →
      still_runs job workers (after_rounds world_events (still_runs job workers) workers n es) b
      ≡ true →
      n < own_step_bound job
  rounds_fewer b n es limits some most below runs =
      let h : Held (After es) = run_holds (start_compact job workers) es
      (record { made = empty; holds = holds_start job workers limits some most }) in
      let all = after_rounds world_events (still_runs job workers) workers n es in
      let t = rounds_track b n es below h in
      let board = run_board (start_compact job workers) all in
      let less : n < own_step_bound (After all).job =
      fewer (After all) t.made b n t.holds (t.counted runs) (goer (After all) b runs) in
      subst (λ (j : JobData). n < own_step_bound j) board.0 less

  -- the bound fits 64 bits
  pub rounds_small : IsJob job → 1 ≤ workers → workers ≤ 64 →
      own_step_bound job < 2 ^ 63
  rounds_small limits some most = bound_small job (layout_of job Compact workers)
      (start_compact job workers).words (holds_start job workers limits some most).stands
