-- How many steps a body has made: fewer than the bound while it is going.
use Rattle.std.proofs.Common.{◌≡◌, ◌≢◌, ℕ, zero, suc, ◌+◌, ◌<◌, ◌≤◌, ◌*◌, ◌^◌, List, []}
use Rattle.std.proofs.Common.{◌∷◌, length, slice_get, slice_set, Option, Some, None, true}
use Rattle.std.proofs.Common.{refl, sym, ap, subst, ◌∙◌, inl, inr, mul-le-mul, arith}
use Rattle.std.proofs.lemmas.Bool.{cases_lt}
use Rattle.std.specs.Option.{is_none}
use Rattle.pram_job.specs.Job.{JobData}
use Rattle.pram_words.specs.Words.{LayoutData}
use Rattle.pram_words.specs.Tree.{leaves_of}
use Rattle.pram_words.proofs.Halvings.{leaves_most}
use Rattle.walkx.specs.Bound.{told_all, history_of, own_step_bound}
use Rattle.walkx.specs.Operations.{answer}
use Rattle.walkx.specs.Records.{Record, after, Has}
use Rattle.walkx.specs.Walk.{Walking, ask_of, told, end_of, come_back, remembering}
use Rattle.lawful_walk.specs.Board.{Stands}
use Rattle.pram_world.specs.declared.event.Event.{Event}
use Rattle.pram_world.specs.declared.event.Event.TheVariants.{Go}
use Rattle.pram_world.specs.Ends.{after_own_steps}
use Rattle.pram_world.specs.Inner.Holding.{Fitting, WorldHolds}
use Rattle.pram_world.specs.Worlds.{Act, go, stop, back, start, load, Body, walks, stopped}
use Rattle.pram_world.specs.Worlds.{WorldData, Walks, KeepsBoard, going, body_goes, went, replaced, as_act}
use Rattle.pram_world.specs.Worlds.{world_after, happens, run}
use Rattle.pram_world.proofs.Cited.{has_on, own_steps}
use Rattle.pram_world.specs.Inner.Holding.{Held}
use Rattle.pram_world.proofs.Keeping.{holds_step}

-- a body that is going is a worker that is not over
pub record IsGoing (s : WorldData) (b : ℕ) : Type 0 where
  pub worker : Walking
  pub walks : Walks s b worker
  pub going : end_of worker.now ≡ None

none_is : {X : Type 0} (o : Option X) → is_none o ≡ true → o ≡ None
none_is None e = refl
none_is (Some x) e = absurd (cc)

goer_by : (s : WorldData) (b : ℕ) (o : Option Body) →
    slice_get s.bodies b ≡ o → body_goes o ≡ true → IsGoing s b
goer_by s b None is e = absurd (cc)
goer_by s b (Some (stopped n)) is e = absurd (cc)
goer_by s b (Some (walks w)) is e =
    record { worker = w; walks = is; going = none_is (end_of w.now) e }

pub goer : (s : WorldData) (b : ℕ) → going s b ≡ true → IsGoing s b
goer s b e = goer_by s b (slice_get s.bodies b) refl e

-- body b has made n steps since it was a worker that fits, and the record has them
pub record Counted (now : WorldData) (made : Record) (b n : ℕ) : Type 0 where
  pub worker : Walking
  pub fits : Fitting now.job now.layout worker
  pub answers : List ℕ
  pub count : length answers ≡ n
  pub at : Walks now b (told_all now.job now.layout worker answers)
  pub has : Has made (history_of now.job now.layout worker answers)

pub counted_none : (s : WorldData) (made : Record) (b : ℕ) → WorldHolds s made →
    IsGoing s b → Counted s made b 0
counted_none s made b h g =
    let k = h.known b g.worker g.walks in
    record {
      worker = g.worker;
      fits = k.1;
      answers = [];
      count = refl;
      at = g.walks;
      has = k.0.script;
    }

-- so it has made fewer than the bound
pub fewer : (s : WorldData) (made : Record) (b n : ℕ) → WorldHolds s made → Counted s made b n →
    IsGoing s b → n < own_step_bound s.job
fewer s made b n h c g =
    let same : g.worker ≡ told_all s.job s.layout c.worker c.answers =
    same_some g.worker (told_all s.job s.layout c.worker c.answers) (sym g.walks ∙ c.at) in
    subst (λ (k : ℕ). k < own_step_bound s.job) c.count
    (own_steps s.job s.layout made c.worker c.answers s.words h.stands h.backed c.has c.fits
    (subst (λ (w : Walking). end_of w.now ≡ None) same g.going))
  where
    same_some : (v w : Walking) → Some (walks v) ≡ Some (walks w) → v ≡ w
    same_some v w e = cc

-- ---- one step more

-- the record with the step
abbrev pub lengthened : WorldData → Record → Walking → Record
lengthened s made w =
    after made (ask_of s.job s.layout w) (answer s.words (ask_of s.job s.layout w))

pub get_set_same : {X : Type 0} (xs : List X) (b : ℕ) (x y : X) → slice_get xs b ≡ Some y →
    slice_get (slice_set xs b x) b ≡ Some x
get_set_same [] b x y e = absurd (cc)
get_set_same (z ∷ zs) zero x y e = refl
get_set_same (z ∷ zs) (suc b) x y e = get_set_same zs b x y e

pub get_set_other : {X : Type 0} (xs : List X) (b at : ℕ) (x : X) → at ≢ b →
    slice_get (slice_set xs b x) at ≡ slice_get xs at
get_set_other [] b at x apart = refl
get_set_other (z ∷ zs) zero zero x apart = absurd (apart refl)
get_set_other (z ∷ zs) zero (suc at) x apart = refl
get_set_other (z ∷ zs) (suc b) zero x apart = refl
get_set_other (z ∷ zs) (suc b) (suc at) x apart = get_set_other zs b at x (λ e. apart (ap suc e))

-- by the body itself
pub counted_own : (s : WorldData) (made : Record) (b n : ℕ) (w : Walking) → Walks s b w →
    Counted s made b n → Counted (went s b (Some (walks w))) (lengthened s made w) b (n + 1)
counted_own s made b n w is c =
    let old = told_all s.job s.layout c.worker c.answers in
    let same : w ≡ old = same_some w old (sym is ∙ c.at) in
    let found = answer s.words (ask_of s.job s.layout w) in
    let one : length (found ∷ c.answers) ≡ n + 1 = (let k = c.count in omega arith) in
    record {
      worker = c.worker;
      fits = c.fits;
      answers = found ∷ c.answers;
      count = one;
      at = get_set_same s.bodies b (walks (told s.job s.layout w found)) (walks w) is
          ∙ ap (λ v. Some (walks (told s.job s.layout v found))) same;
      has = inl (ap (λ v. (ask_of s.job s.layout v, found)) (sym same), c.has);
    }
  where
    same_some : (v w : Walking) → Some (walks v) ≡ Some (walks w) → v ≡ w
    same_some v w e = cc

-- by another
pub counted_other : (s : WorldData) (made : Record) (b n other : ℕ) (w : Walking) → b ≢ other →
    Counted s made b n → Counted (went s other (Some (walks w))) (lengthened s made w) b n
counted_other s made b n other w apart c = record {
  worker = c.worker;
  fits = c.fits;
  answers = c.answers;
  count = c.count;
  at = get_set_other s.bodies other b
      (walks (told s.job s.layout w (answer s.words (ask_of s.job s.layout w)))) apart ∙ c.at;
  has = has_on made (ask_of s.job s.layout w) (answer s.words (ask_of s.job s.layout w))
      (history_of s.job s.layout c.worker c.answers) c.has;
}

-- ---- job and layout stay

went_board : (s : WorldData) (b : ℕ) (o : Option Body) →
    ((went s b o).job ≡ s.job) × ((went s b o).layout ≡ s.layout)
went_board s b None = (refl, refl)
went_board s b (Some (stopped n)) = (refl, refl)
went_board s b (Some (walks w)) = (refl, refl)

replaced_board : (s : WorldData) (b : ℕ) (new : ℕ → Body) (o : Option Body) →
    ((replaced s b new o).job ≡ s.job) × ((replaced s b new o).layout ≡ s.layout)
replaced_board s b new None = (refl, refl)
replaced_board s b new (Some body) = (refl, refl)

pub board_after : (s : WorldData) (a : Act) →
    ((world_after s a).job ≡ s.job) × ((world_after s a).layout ≡ s.layout)
board_after s (go b) = went_board s b (slice_get s.bodies b)
board_after s (stop b) = replaced_board s b stopped (slice_get s.bodies b)
board_after s (back b size) =
    replaced_board s b (λ n. walks (remembering size (come_back n))) (slice_get s.bodies b)
board_after s (start w size) = (refl, refl)
board_after s (load k) = (refl, refl)

pub same_board : (s : WorldData) (e : Event) →
    ((happens s e).job ≡ s.job) × ((happens s e).layout ≡ s.layout)
same_board s e = board_after s (as_act e)

pub run_board : (s : WorldData) (es : List Event) → KeepsBoard s (run s es)
run_board s [] = (refl, refl)
run_board s (e ∷ es) =
    let one = same_board s e in
    let rest = run_board (happens s e) es in (rest.0 ∙ one.0, rest.1 ∙ one.1)

pub steps_board : (s : WorldData) (b n : ℕ) →
    ((after_own_steps s b n).job ≡ s.job) × ((after_own_steps s b n).layout ≡ s.layout)
steps_board s b zero = (refl, refl)
steps_board s b (suc n) =
    let one = same_board (after_own_steps s b n) (Go b) in
    let rest = steps_board s b n in (one.0 ∙ rest.0, one.1 ∙ rest.1)

-- ---- steps of one body alone

record Chained (s : WorldData) (b n : ℕ) : Type 0 where
  made : Record
  holds : WorldHolds (after_own_steps s b n) made
  counted : Counted (after_own_steps s b n) made b n

chained : (s : WorldData) (b n : ℕ) → Held s →
    ((k : ℕ) → k ≤ n → going (after_own_steps s b k) b ≡ true) → Chained s b n
chained s b zero h all = record {
  made = h.made;
  holds = h.holds;
  counted = counted_none s h.made b h.holds (goer s b (all 0 (omega arith)));
}
chained s b (suc n) h all =
    let c = chained s b n h (λ k le. all k (omega arith)) in
    let now = after_own_steps s b n in
    let g = goer (after_own_steps s b n) b (all n (omega arith)) in
    let made = lengthened now c.made g.worker in
    let same : went now b (Some (walks g.worker)) ≡ happens now (Go b) =
    ap (went now b) (sym g.walks) in
    let count : Counted (went now b (Some (walks g.worker))) made b (suc n) =
    subst (Counted (went now b (Some (walks g.worker))) made b)
    (let e : n + 1 ≡ suc n = omega arith in
    e) (counted_own now c.made b n g.worker g.walks c.counted) in
    record {
      made = made;
      holds = subst (λ (x : WorldData). WorldHolds x made) same
          (holds_step now c.made b g.worker g.walks c.holds);
      counted = subst (λ (x : WorldData). Counted x made b (suc n)) same count;
    }

-- a body that was going before each of its steps has made no more than the bound
pub finish_bound : (s : WorldData) (b n : ℕ) → Held s →
    ((k : ℕ) → k < n → going (after_own_steps s b k) b ≡ true) → n ≤ own_step_bound s.job
finish_bound s b zero h all = omega arith
finish_bound s b (suc n) h all =
    let c = chained s b n h (λ k le. all k (omega arith)) in
    let less : n < own_step_bound (after_own_steps s b n).job = fewer (after_own_steps s b n)
    c.made b n c.holds c.counted (goer (after_own_steps s b n) b (all n (omega arith))) in
    let board = steps_board s b n in
    let same : n < own_step_bound s.job = subst (λ (job : JobData). n < own_step_bound job) board.0 less in
    omega arith

-- the bound fits 64 bits
pub bound_small : (job : JobData) (y : LayoutData) (words : List ℕ) →
    Stands job y words → own_step_bound job < 2 ^ 63
bound_small job y words stands =
    let l = leaves_most job.procs stands.limits.procs.0 stands.limits.procs.1 in
    let leaves : 300 * leaves_of job.procs ≤ 19660800 = (let h = l.1 in omega arith) in
    let steps : job.steps ≤ 4294967295 = (let h = stands.limits.steps in omega arith) in
    let m : 300 * leaves_of job.procs * job.steps ≤ 19660800 * 4294967295 = mul-le-mul leaves steps in
    omega arith

-- what one more step of the code comes to
pub going_more : (s : WorldData) (b n : ℕ) →
    ((k : ℕ) → k < n → going (after_own_steps s b k) b ≡ true) →
    going (after_own_steps s b n) b ≡ true → (k : ℕ) → k < n + 1 →
    going (after_own_steps s b k) b ≡ true
going_more s b n all last k below = elim (cases_lt k n) [
  | inl less ↦ all k less
  | inr le ↦
      (let e : n ≡ k = omega arith in
      subst (λ (m : ℕ). going (after_own_steps s b m) b ≡ true) e last)
]

pub step_more : (s now : WorldData) (b n : ℕ) →
    now ≡ happens (after_own_steps s b n) (Go b) → now ≡ after_own_steps s b (n + 1)
step_more s now b n is = let e : suc n ≡ n + 1 = omega arith in is ∙ ap (after_own_steps s b) e
