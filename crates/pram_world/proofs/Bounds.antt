-- The own steps of a body in a run: fewer than the bound before each of them.
use Rattle.std.proofs.Common.{◌≡◌, ◌≢◌, ℕ, zero, suc, ◌+◌, ◌<◌, ◌≤◌, ◌==◌, ◌&&◌, Bool, true}
use Rattle.std.proofs.Common.{false, if◌then◌else◌, List, [], ◌∷◌, ◌++◌, slice_get, slice_set}
use Rattle.std.proofs.Common.{Option, Some, None, refl, sym, ap, subst, ◌∙◌, inl, inr, arith}
use Rattle.std.proofs.lemmas.Bool.{cases_Bool, cases_eq, eq-eqb, ne_eqb}
use Rattle.std.specs.Option.{is_none}
use Rattle.pram_job.specs.Job.{JobData}
use Rattle.pram_words.specs.Words.{LayoutData, layout_of}
use Rattle.walkx.specs.Bound.{own_step_bound}
use Rattle.walkx.specs.Operations.{answer}
use Rattle.walkx.specs.Records.{Record}
use Rattle.walkx.specs.Walk.{Walking, ask_of, told, end_of, started, come_back, remembering}
use Rattle.pram_world.specs.Inner.Holding.{WorldHolds}
use Rattle.pram_world.specs.Laws.{EveryBodyIsBounded}
use Rattle.pram_world.specs.Runs.{Run, run_begun, noted_by, acted, all_acted, StartsFit}
use Rattle.pram_world.specs.Runs.{steps_at, steps_in, LeavesAlone, AllLeave}
use Rattle.pram_world.specs.Worlds.{Act, go, stop, back, start, load, Body, walks, stopped, number}
use Rattle.pram_world.specs.Worlds.{WorldData, Walks, going, body_goes, went, replaced}
use Rattle.pram_world.proofs.Counting.{Counted, counted_none, counted_own, counted_other}
use Rattle.pram_world.proofs.Counting.{lengthened, get_set_other, get_set_same, goer, fewer}
use Rattle.pram_world.proofs.Interleaving.{RunHolds, acted_holds, all_hold, begun_holds}
use Rattle.pram_world.proofs.Keeping.{joined}
use Rattle.pram_world.proofs.Overs.{idle_went}

-- a body that there is
abbrev IsThere : WorldData → ℕ → Type 0
IsThere s b = (body : Body) × (slice_get s.bodies b ≡ Some body)

-- it has made n steps, no more than the bound; while it is going the record has them
record Bounded (s : WorldData) (made : Record) (b n : ℕ) : Type 0 where
  there : IsThere s b
  most : n ≤ own_step_bound s.job
  counted : going s b ≡ true → Counted s made b n

-- ---- lists of bodies

get_push_old : {X : Type 0} (xs : List X) (b : ℕ) (x y : X) → slice_get xs b ≡ Some y →
    slice_get (xs ++ x ∷ []) b ≡ Some y
get_push_old [] b x y e = absurd (cc)
get_push_old (z ∷ zs) zero x y e = e
get_push_old (z ∷ zs) (suc b) x y e = get_push_old zs b x y e

-- ---- another body, or none, changes: what is counted of this one stays

counted_in : (s : WorldData) (made : Record) (b n : ℕ) (bodies : List Body) → slice_get bodies b
    ≡ slice_get s.bodies b → Counted s made b n → Counted (record s { bodies = bodies }) made b n
counted_in s made b n bodies same c = record {
  worker = c.worker;
  fits = c.fits;
  answers = c.answers;
  count = c.count;
  at = same ∙ c.at;
  has = c.has;
}

bounded_in : (s : WorldData) (made : Record) (b n : ℕ) (bodies : List Body) → slice_get bodies b
    ≡ slice_get s.bodies b → Bounded s made b n → Bounded (record s { bodies = bodies }) made b n
bounded_in s made b n bodies same h = record {
  there = (h.there.0, same ∙ h.there.1);
  most = h.most;
  counted = λ now. counted_in s made b n bodies same (h.counted (ap body_goes (sym same) ∙ now));
}

replaced_bounded : (s : WorldData) (made : Record) (b n c : ℕ) (new : ℕ → Body) (o : Option Body) →
    c ≢ b → Bounded s made b n → Bounded (replaced s c new o) made b n
replaced_bounded s made b n c new None apart h = h
replaced_bounded s made b n c new (Some body) apart h =
    bounded_in s made b n (slice_set s.bodies c (new (number body)))
    (get_set_other s.bodies c b (new (number body)) (λ e. apart (sym e))) h

-- ---- a step

-- its count, o being body c
abbrev counts : ℕ → ℕ → Option Body → ℕ
counts b c o = if (c == b) && body_goes o then 1 else 0

counts_own : (b c : ℕ) (o : Option Body) → c ≡ b → body_goes o ≡ true → counts b c o ≡ 1
counts_own b c o same runs = rw (eq-eqb c b same, runs)

counts_other : (b c : ℕ) (o : Option Body) → c ≢ b → counts b c o ≡ 0
counts_other b c o apart = rw (ne_eqb c b apart)

counts_still : (b c : ℕ) (o : Option Body) → body_goes o ≡ false → counts b c o ≡ 0
counts_still b c o still =
    elim (cases_eq c b) [ inl e ↦ rw (eq-eqb c b e, still) | inr n ↦ rw (ne_eqb c b n) ]

no_more : (k n : ℕ) → k ≡ 0 → n ≡ k + n
no_more k n none = omega arith

-- of the body itself
own_bounded : (s : WorldData) (made : Record) (b n : ℕ) (w : Walking) →
    Walks s b w → body_goes (Some (walks w)) ≡ true → WorldHolds s made → Bounded s made b n →
    Bounded (went s b (Some (walks w))) (lengthened s made w) b (1 + n)
own_bounded s made b n w at runs holds h =
    let here : going s b ≡ true = ap body_goes at ∙ runs in
    let counted = h.counted here in
    let less : n < own_step_bound s.job = fewer s made b n holds counted (goer s b here) in
    let one : n + 1 ≡ 1 + n = omega arith in
    let new = walks (told s.job s.layout w (answer s.words (ask_of s.job s.layout w))) in
    record {
      there = (new, get_set_same s.bodies b new (walks w) at);
      most = omega arith;
      counted = λ now. subst (Counted (went s b (Some (walks w))) (lengthened s made w) b) one
          (counted_own s made b n w at counted);
    }

-- of another
other_bounded : (s : WorldData) (made : Record) (b n c : ℕ) (w : Walking) → b ≢ c →
    Bounded s made b n → Bounded (went s c (Some (walks w))) (lengthened s made w) b n
other_bounded s made b n c w apart h =
    let new = walks (told s.job s.layout w (answer s.words (ask_of s.job s.layout w))) in
    let same = get_set_other s.bodies c b new apart in
    record {
      there = (h.there.0, same ∙ h.there.1);
      most = h.most;
      counted = λ now. counted_other s made b n c w apart
          (h.counted (ap body_goes (sym same) ∙ now));
    }

walked_bounded : (s : WorldData) (made : Record) (b n c : ℕ) (w : Walking) →
    Walks s c w → body_goes (Some (walks w)) ≡ true → WorldHolds s made → Bounded s made b n →
    Bounded (went s c (Some (walks w))) (lengthened s made w) b (counts b c (Some (walks w)) + n)
walked_bounded s made b n c w at runs holds h = elim (cases_eq c b) [
  | inl e ↦ subst (λ (k : ℕ). Bounded (went s c (Some (walks w))) (lengthened s made w) b (k + n))
      (sym (counts_own b c (Some (walks w)) e runs))
      (subst (λ (k : ℕ). Bounded (went s c (Some (walks w))) (lengthened s made w) k (1 + n)) e
      (own_bounded s made c n w at runs holds (subst (λ (k : ℕ). Bounded s made k n) (sym e) h)))
  | inr apart ↦ subst (Bounded (went s c (Some (walks w))) (lengthened s made w) b)
      (no_more _ n (counts_other b c (Some (walks w)) apart))
      (other_bounded s made b n c w (λ e. apart (sym e)) h)
]

went_bounded : (s : WorldData) (made : Record) (b n c : ℕ) (o : Option Body) →
    slice_get s.bodies c ≡ o → WorldHolds s made → Bounded s made b n →
    Bounded (went s c o) (noted_by s o made) b (counts b c o + n)
went_bounded s made b n c None is holds h =
    subst (Bounded s made b) (no_more _ n (counts_still b c None refl)) h
went_bounded s made b n c (Some (stopped m)) is holds h =
    subst (Bounded s made b) (no_more _ n (counts_still b c (Some (stopped m)) refl)) h
went_bounded s made b n c (Some (walks w)) is holds h =
    let now = went s c (Some (walks w)) in
    let count = counts b c (Some (walks w)) + n in
    elim (cases_Bool (is_none (end_of w.now))) [
      | inl runs ↦
          subst (λ (v : Bool). Bounded now (if v then lengthened s made w else made) b count)
          (sym runs) (walked_bounded s made b n c w is runs holds h)
      | inr over ↦ subst
          (λ (v : Bool). Bounded now (if v then lengthened s made w else made) b count) (sym over)
          (subst (λ (x : WorldData). Bounded x made b count)
          (sym (idle_went s c (Some (walks w)) is over))
          (subst (Bounded s made b) (no_more _ n (counts_still b c (Some (walks w)) over)) h))
    ]

-- ---- an act

acted_bounded : (r : Run) (b n : ℕ) (a : Act) →
    LeavesAlone b a → WorldHolds r.world r.made → Bounded r.world r.made b n →
    Bounded (acted r a).world (acted r a).made b (steps_at r.world b a + n)
acted_bounded r b n (go c) leaves holds h =
    went_bounded r.world r.made b n c (slice_get r.world.bodies c) refl holds h
acted_bounded r b n (stop c) leaves holds h = subst
    (Bounded (replaced r.world c stopped (slice_get r.world.bodies c)) r.made b) (no_more 0 n refl)
    (replaced_bounded r.world r.made b n c stopped (slice_get r.world.bodies c) leaves h)
acted_bounded r b n (back c size) leaves holds h =
    let new : ℕ → Body = λ m. walks (remembering size (come_back m)) in
    let old = slice_get r.world.bodies c in
    subst (Bounded (replaced r.world c new old) r.made b) (no_more 0 n refl)
    (replaced_bounded r.world r.made b n c new old leaves h)
acted_bounded r b n (start w size) leaves holds h =
    let new = walks (remembering size (started w)) in
    let old = get_push_old r.world.bodies b new h.there.0 h.there.1 in
    subst (Bounded (joined r.world new) r.made b) (no_more 0 n refl)
    (bounded_in r.world r.made b n (r.world.bodies ++ new ∷ []) (old ∙ sym h.there.1) h)
acted_bounded r b n (load k) leaves holds h = subst (Bounded r.world r.made b) (no_more 0 n refl) h

all_bounded : (job : JobData) (y : LayoutData) (r : Run) (b n : ℕ) (acts : List Act) →
    StartsFit y.workers acts → AllLeave b acts → RunHolds job y r → Bounded r.world r.made b n →
    Bounded (all_acted r acts).world (all_acted r acts).made b (steps_in r b acts + n)
all_bounded job y r b n [] fits leaves holds h =
    subst (Bounded r.world r.made b) (no_more 0 n refl) h
all_bounded job y r b n (a ∷ acts) fits leaves holds h =
    let one = acted_bounded r b n a leaves.0 holds.holds h in
    let rest = all_bounded job y (acted r a) b
    (steps_at r.world b a + n) acts fits.1 leaves.1 (acted_holds job y r a fits.0 holds) one in
    let sum : steps_in (acted r a) b acts + (steps_at r.world b a + n)
    ≡ steps_at r.world b a + steps_in (acted r a) b acts + n = omega arith in
    subst (λ (k : ℕ).
    Bounded (all_acted (acted r a) acts).world (all_acted (acted r a) acts).made b k) sum rest

pub every_body_is_bounded : EveryBodyIsBounded
every_body_is_bounded job form workers acts later b w limits block some most fits also at leaves =
    let y = layout_of job form workers in
    let before = all_acted (run_begun job form workers) acts in
    let behind = all_acted before later in
    let h = all_hold job y (run_begun job form workers) acts fits
    (begun_holds job form workers limits block some most) in
    let after = all_hold job y before later also h in
    let start : Bounded before.world before.made b 0 = record {
      there = (walks w, at);
      most = omega arith;
      counted = λ now. counted_none before.world before.made b h.holds (goer before.world b now);
    } in
    let bounded = all_bounded job y before b 0 later also leaves h start in
    let count = bounded.most in
    let all : steps_in before b later ≤ own_step_bound behind.world.job =
    omega arith in
    subst (λ (j : JobData). steps_in before b later ≤ own_step_bound j) after.job_stays all
