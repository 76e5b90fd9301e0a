-- Each event keeps what holds of a world.
use Rattle.std.proofs.Common.{◌≡◌, ◌≢◌, ◌⊎◌, ℕ, zero, suc, ◌+◌, ◌<◌, ◌≤◌, List}
use Rattle.std.proofs.Common.{[], ◌∷◌, ◌++◌, map, slice_get, slice_set, Option}
use Rattle.std.proofs.Common.{Some, None, refl, sym, subst, inl, inr, arith}
use Rattle.std.specs.List.{range_with_len}
use Rattle.pram_job.specs.Job.{JobData, IsJob}
use Rattle.pram_words.specs.declared.layout.Form.{Form}
use Rattle.pram_words.specs.declared.layout.Form.TheVariants.{Compact}
use Rattle.pram_words.specs.declared.words.Word.{Word}
use Rattle.pram_words.specs.declared.words.Word.TheVariants.{Position}
use Rattle.pram_words.specs.Words.{IsGrain, grain_of, IsWord, layout_of}
use Rattle.walkx.specs.Operations.{answer}
use Rattle.walkx.specs.Records.{Record, empty, after, Knows}
use Rattle.walkx.specs.Walk.{Walking, ask_of, told, started, come_back, remembering}
use Rattle.lawful_walk.specs.Board.{held, root}
use Rattle.lawful_walk.specs.Moments.{IsFixed}
use Rattle.lawful_walk.specs.Walks.{phase_now}
use Rattle.lawful_walk.proofs.Starting.{starts_stand}
use Rattle.pram_world.specs.declared.event.Event.{Event}
use Rattle.pram_world.specs.declared.event.Event.TheVariants.{Go, Stop, Back}
use Rattle.pram_world.specs.Inner.Holding.{Fitting, Held, WorldHolds}
use Rattle.pram_world.specs.Worlds.{Act, go, stop, back, start, load, Body, walks, stopped, number}
use Rattle.pram_world.specs.Worlds.{WorldData, world_begun, start_compact, went, replaced}
use Rattle.pram_world.specs.Worlds.{world_after, happens, run, Walks, StaleChangesNothing}
use Rattle.pram_world.proofs.Cited.{moves, known_on, more, fits_on}
use Rattle.pram_world.proofs.Cited.{starts_well, returns_well, in_workers}

-- ---- lists of bodies

pub get_set : {X : Type 0} (xs : List X) (b at : ℕ) (x v : X) →
    slice_get (slice_set xs b x) at ≡ Some v → (v ≡ x) ⊎ (slice_get xs at ≡ Some v)
get_set [] b at x v e = inr e
get_set (z ∷ zs) zero zero x v e = inl (cc)
get_set (z ∷ zs) zero (suc at) x v e = inr e
get_set (z ∷ zs) (suc b) zero x v e = inr e
get_set (z ∷ zs) (suc b) (suc at) x v e = get_set zs b at x v e

pub get_push : {X : Type 0} (xs : List X) (at : ℕ) (x v : X) →
    slice_get (xs ++ x ∷ []) at ≡ Some v → (v ≡ x) ⊎ (slice_get xs at ≡ Some v)
get_push [] zero x v e = inl (cc)
get_push [] (suc at) x v e = absurd (cc)
get_push (z ∷ zs) zero x v e = inr e
get_push (z ∷ zs) (suc at) x v e = get_push zs at x v e

pub same_walking : (v w : Walking) → walks v ≡ walks w → v ≡ w
same_walking v w e = cc

pub not_stopped : (w : Walking) (n : ℕ) → walks w ≡ stopped n → ⊥
not_stopped w n e = cc

-- a body at the start
record Starts (low n : ℕ) (body : Body) : Type 0 where
  worker : ℕ
  is : body ≡ walks (started worker)
  below : worker < low + n

starts_at : (low n at : ℕ) (body : Body) →
    slice_get (map (λ w. walks (started w)) (range_with_len low n)) at ≡ Some body →
    Starts low n body
starts_at low zero at body e = absurd (cc)
starts_at low (suc n) zero body e = record { worker = low; is = cc; below = omega arith }
starts_at low (suc n) (suc at) body e =
    let s = starts_at (low + 1) n at body e in
    let b = s.below in record { worker = s.worker; is = s.is; below = omega arith }

-- ---- the start

pub holds_begun : (job : JobData) (form : Form) (workers : ℕ) → IsJob job →
    IsGrain (grain_of form) → 1 ≤ workers → workers ≤ 64 →
    WorldHolds (world_begun job form workers) empty
holds_begun job form workers limits block some most = record {
  stands = starts_stand job form workers limits block some most;
  backed = tt;
  known = λ b w is. absurd (cc);
  numbers = λ b body is. absurd (cc);
}

-- a leaf of the compact form stands for one processor
pub one_processor : IsGrain (grain_of Compact)
one_processor = ((0, refl), omega arith)

pub holds_start : (job : JobData) (workers : ℕ) → IsJob job → 1 ≤ workers → workers ≤ 64 →
    WorldHolds (start_compact job workers) empty
holds_start job workers limits some most = record {
  stands = starts_stand job Compact workers limits one_processor some most;
  backed = tt;
  known = λ b w is.
      let s = starts_at 0 workers b (walks w) is in
      let e : w ≡ started s.worker = same_walking w (started s.worker) s.is in
      let below = s.below in
      let y = layout_of job Compact workers in
      let well = starts_well job y empty s.worker 0 (omega arith) in (
        subst (λ (v : Walking). Knows job y empty v) (sym e) well.0,
        subst (Fitting job y) (sym e) well.1,
      );
  numbers = λ b body is. let s = starts_at 0 workers b body is in
      let below = s.below in subst (λ (x : Body). number x < workers) (sym s.is) (omega arith);
}

-- ---- a step

pub holds_step : (s : WorldData) (made : Record) (b : ℕ) (w : Walking) →
    Walks s b w → WorldHolds s made → WorldHolds (went s b (Some (walks w)))
    (after made (ask_of s.job s.layout w) (answer s.words (ask_of s.job s.layout w)))
holds_step s made b w is h =
    let job = s.job in
    let y = s.layout in
    let op = ask_of s.job s.layout w in
    let found = answer s.words (ask_of s.job s.layout w) in
    let k = h.known b w is in
    let m = moves s.job s.layout made w s.words h.stands h.backed k.0 k.1 in
    let new = told s.job s.layout w (answer s.words (ask_of s.job s.layout w)) in
    let knows = known_on s.job s.layout made w s.words h.stands h.backed k.0 k.1 in
    let fits = fits_on s.job s.layout s.words w h.stands k.1 in
    record {
      stands = ((m.goes).keeps).stands;
      backed = m.backed;
      known = λ at v e. elim (get_set s.bodies b at (walks new) (walks v) e) [
        | inl same ↦ (let f : v ≡ new = same_walking v new same in (
          subst (λ (x : Walking). Knows job y (after made op found) x) (sym f) knows,
          subst (Fitting job y) (sym f) fits,
        ))
        | inr old ↦ (let g = h.known at v old in (more s.job s.layout made op found v g.0, g.1))
      ];
      numbers = λ at body e. elim (get_set s.bodies b at (walks new) body e) [
        | inl same ↦ subst (λ (x : Body). number x < y.workers)
            (sym same) (in_workers s.job s.layout new fits)
        | inr old ↦ h.numbers at body old
      ];
    }

-- ---- a body is stopped, comes back, or is new: it is known to every record

-- nothing has to be heard to know it
abbrev IsKnown : WorldData → Body → Type 0
IsKnown s body = (number body < s.layout.workers) × ((w : Walking) → body ≡ walks w →
    (made : Record) → Knows s.job s.layout made w × Fitting s.job s.layout w)

pub stopped_known : (s : WorldData) (n : ℕ) → n < s.layout.workers → IsKnown s (stopped n)
stopped_known s n below = (below, λ w is made. absurd (not_stopped w n (sym is)))

pub started_known : (s : WorldData) (n size : ℕ) → n < s.layout.workers →
    IsKnown s (walks (remembering size (started n)))
started_known s n size below = (
  below,
  λ w is made.
      let new = remembering size (started n) in
      let e : new ≡ w = same_walking new w is in
      let well = starts_well s.job s.layout made n size below in (
        subst (λ (x : Walking). Knows s.job s.layout made x) e well.0,
        subst (Fitting s.job s.layout) e well.1,
      ),
)

pub back_known : (s : WorldData) (n size : ℕ) → n < s.layout.workers →
    IsKnown s (walks (remembering size (come_back n)))
back_known s n size below = (
  below,
  λ w is made.
      let new = remembering size (come_back n) in
      let e : new ≡ w = same_walking new w is in
      let well = returns_well s.job s.layout made n size below in (
        subst (λ (x : Walking). Knows s.job s.layout made x) e well.0,
        subst (Fitting s.job s.layout) e well.1,
      ),
)

-- bodies of which each is an old one or this one
others_hold : (s : WorldData) (made : Record) (bodies : List Body) (new : Body) →
    WorldHolds s made → IsKnown s new →
    ((at : ℕ) (body : Body) → slice_get bodies at ≡ Some body →
    (body ≡ new) ⊎ (slice_get s.bodies at ≡ Some body)) →
    WorldHolds (record s { bodies = bodies }) made
others_hold s made bodies new h known each = record {
  stands = h.stands;
  backed = h.backed;
  known = λ at v e. elim (each at (walks v) e) [
    | inl same ↦ known.1 v (sym same) made
    | inr old ↦ h.known at v old
  ];
  numbers = λ at body e. elim (each at body e) [
    | inl same ↦ subst (λ (x : Body). number x < s.layout.workers) (sym same) known.0
    | inr old ↦ h.numbers at body old
  ];
}

pub holds_replaced : (s : WorldData) (made : Record) (b : ℕ) (new : Body) → WorldHolds s made →
    IsKnown s new → WorldHolds (record s { bodies = slice_set s.bodies b new }) made
holds_replaced s made b new h known = others_hold s made (slice_set s.bodies b new) new h known
    (λ at body e. get_set s.bodies b at new body e)

abbrev pub joined : WorldData → Body → WorldData
joined s new = record s { bodies = s.bodies ++ new ∷ [] }

pub holds_joined : (s : WorldData) (made : Record) (new : Body) → WorldHolds s made →
    IsKnown s new → WorldHolds (joined s new) made
holds_joined s made new h known = others_hold s made (s.bodies ++ new ∷ []) new h known
    (λ at body e. get_push s.bodies at new body e)

-- ---- events

went_holds : (s : WorldData) (b : ℕ) (o : Option Body) →
    slice_get s.bodies b ≡ o → Held s → Held (went s b o)
went_holds s b None is h = h
went_holds s b (Some (stopped n)) is h = h
went_holds s b (Some (walks w)) is h =
    record { made = _; holds = holds_step s h.made b w is h.holds }

stop_holds : (s : WorldData) (b : ℕ) (o : Option Body) → slice_get s.bodies b ≡ o →
    Held s → Held (replaced s b stopped o)
stop_holds s b None is h = h
stop_holds s b (Some body) is h = record {
  made = h.made;
  holds = holds_replaced s h.made b
      (stopped (number body)) h.holds (stopped_known s (number body) ((h.holds).numbers b body is));
}

back_holds : (s : WorldData) (b size : ℕ) (o : Option Body) → slice_get s.bodies b ≡ o → Held s →
    Held (replaced s b (λ n. walks (remembering size (come_back n))) o)
back_holds s b size None is h = h
back_holds s b size (Some body) is h = record {
  made = h.made;
  holds = holds_replaced s h.made b
      (walks (remembering size (come_back (number body)))) h.holds
      (back_known s (number body) size ((h.holds).numbers b body is));
}

pub happens_holds : (s : WorldData) (e : Event) → Held s → Held (happens s e)
happens_holds s (Go b) h = went_holds s b (slice_get s.bodies b) refl h
happens_holds s (Stop b) h = stop_holds s b (slice_get s.bodies b) refl h
happens_holds s (Back b) h = back_holds s b 0 (slice_get s.bodies b) refl h

pub run_holds : (s : WorldData) (es : List Event) → Held s → Held (run s es)
run_holds s [] h = h
run_holds s (e ∷ es) h = run_holds (happens s e) es (happens_holds s e h)

pub run_more : (s : WorldData) (es : List Event) (e : Event) →
    run s (es ++ e ∷ []) ≡ happens (run s es) e
run_more s [] e = refl
run_more s (x ∷ es) e = run_more (happens s x) es e

-- ---- stale steps

stale_step : (s : WorldData) (b : ℕ) (o : Option Body) → slice_get s.bodies b ≡ o →
    Held s → (w : Walking) → o ≡ Some (walks w) → phase_now w.now ≤ root s.layout s.words →
    (a : Word) → IsWord s.layout a → a ≢ Position w.number → IsFixed s.layout.form a →
    held s.layout (went s b o).words a ≡ held s.layout s.words a
stale_step s b None is h w e behind a word apart fixed = refl
stale_step s b (Some (stopped n)) is h w e behind a word apart fixed = refl
stale_step s b (Some (walks v)) is h w e behind a word apart fixed =
    let f : w ≡ v = cc in
    let k = (h.holds).known b v is in
    let m = moves s.job s.layout h.made v s.words (h.holds).stands (h.holds).backed k.0 k.1 in
    (m.goes).stale (subst (λ (x : Walking). phase_now x.now ≤ root s.layout s.words) f behind) a
    word (subst (λ (x : Walking). a ≢ Position x.number) f apart) fixed

replaced_words : (s : WorldData) (b : ℕ) (new : ℕ → Body) (o : Option Body) →
    (replaced s b new o).words ≡ s.words
replaced_words s b new None = refl
replaced_words s b new (Some body) = refl

pub stale_changes_nothing : (s : WorldData) (a : Act) → Held s →
    StaleChangesNothing s a (world_after s a)
stale_changes_nothing s (go b) h = λ w is behind a word apart fixed.
    stale_step s b (slice_get s.bodies b) refl h w is behind a word apart fixed
stale_changes_nothing s (stop b) h = replaced_words s b stopped (slice_get s.bodies b)
stale_changes_nothing s (back b size) h =
    replaced_words s b (λ n. walks (remembering size (come_back n))) (slice_get s.bodies b)
stale_changes_nothing s (start w size) h = refl
stale_changes_nothing s (load k) h = refl
