-- Lawful words that have grown, and the two words of a place heard at two moments.
use Rattle.std.proofs.Common.{◌≡◌, ◌≢◌, ◌⊎◌, ℕ, zero, suc, ◌+◌, ◌*◌, ◌<◌, ◌≤◌, nat_le, true, false}
use Rattle.std.proofs.Common.{List, slice_index, refl, sym, ap, subst, ◌∙◌, inl, inr, lit<, arith}
use Rattle.std.proofs.lemmas.Bool.{cases_eq, cases_lt, cases_Bool, leb-false, le-leb, lt-leb}
use Rattle.pram_job.specs.Job.{JobData}
use Rattle.pram_step.specs.Runs.{IsReached, state_after}
use Rattle.pram_words.specs.declared.layout.Form.TheVariants.{Compact}
use Rattle.pram_words.specs.declared.words.Word.TheVariants.{Node, Asked, Stored}
use Rattle.pram_words.specs.Stamps.{stamp_of, payload_of, first_is_older, older, older_word}
use Rattle.pram_words.specs.Stamps.{newer_word}
use Rattle.pram_words.specs.Words.{LayoutData, IsWord, places_of}
use Rattle.pram_words.specs.Phases.{next_phase}
use Rattle.pram_words.proofs.NextPhases.{next_step}
use Rattle.walkx.specs.Tasks.{is_late}
use Rattle.lawful_walk.specs.Board.{Grows, held, root, stamp_at, finished, IsLate, IsPair}
use Rattle.lawful_walk.specs.Board.{newer_first, newer_second, new_first, new_second, Stands}
use Rattle.lawful_walk.proofs.Moments.{onward, stamps_rise}
use Rattle.lawful_walk.specs.Lands.{landing_before, last_landing, settled, settled_before}
use Rattle.lawful_walk.specs.Lands.{landed_step, word_of_step}
use Rattle.lawful_walk.proofs.Landings.{before_most, last_least, last_most, last_rises}
use Rattle.lawful_walk.proofs.Landings.{settled_tells, stamp_step}
use Rattle.lawful_walk.specs.Writes.{PlaceAsHeard}
use Rattle.lawful_walk.proofs.Values.{before_less, before_rises, has_settled, newer_is_first}
use Rattle.lawful_walk.proofs.Values.{newer_is_second}
use Rattle.lawful_walk.proofs.Facts.{facts, place_below, stamp_settled, stamp_before}

-- ---- what holds of words and later ones

pub record LaterWords (job : JobData) (y : LayoutData) (words later : List ℕ) : Type 0 where
  pub finished_rises : finished y words ≤ finished y later
  pub asked_same : y.form ≡ Compact → (i j : ℕ) → i < y.procs → j < 3 →
      1 ≤ stamp_of (held y words (Asked i j)) →
      stamp_of (held y words (Asked i j)) ≡ stamp_of (held y later (Asked i j)) →
      held y words (Asked i j) ≡ held y later (Asked i j)
  pub same_phase : (x q : ℕ) → IsReached job x → 3 * x < q →
      q ≤ 3 * x + 3 → q ≤ next_phase y.form (root y words) → root y later < q →
      (root y words < q) × (finished y words ≡ x) × (finished y later ≡ x)
  pub stored_same : (p k : ℕ) → IsWord y (Stored p k) → finished y words ≡ finished y later →
      stamp_at y later p 0 ≤ finished y later → stamp_at y later p 1 ≤ finished y later →
      held y words (Stored p k) ≡ held y later (Stored p k)

abbrev pub GrowthShows : Type 0
GrowthShows = (job : JobData) (y : LayoutData) (words later : List ℕ) → Stands job y words →
    Stands job y later → Grows y words later → LaterWords job y words later

abbrev pub PlacesAreAsHeard : Type 0
PlacesAreAsHeard = (job : JobData) (y : LayoutData) (x p a b : ℕ) (first second now : List ℕ) →
    Stands job y first → Stands job y second → Stands job y now →
    Grows y first second → Grows y second now →
    p < places_of y → IsReached job x → 3 * x ≤ root y first → a ≡ held y first (Stored p 0) →
    b ≡ held y second (Stored p 1) → is_late (suc x) a b ≡ false → PlaceAsHeard job y x p a b now

pub root_up : (job : JobData) (y : LayoutData) (words later : List ℕ) → Stands job y words →
    Grows y words later → root y words ≤ root y later
root_up job y words later stands up =
    up (Node 1) (lit< tt, let l = stands.sizes.leaves in omega arith)

-- one of the stamps of a place is at least the last write of any finished step
pub top_low : (job : JobData) (y : LayoutData) (words : List ℕ) (x p : ℕ) →
    Stands job y words → p < places_of y → x ≤ finished y words →
    (last_landing y.form job x p ≤ stamp_at y words p 0) ⊎
    (last_landing y.form job x p ≤ stamp_at y words p 1)
top_low job y words x p stands place h =
    let r = last_rises y.form job stands.limits x (finished y words) p h in
    elim (has_settled y.form job _ _ p _ _ (stands.lawful.stored p place)) [
      | inl e ↦ (let s : stamp_at y words p 0 ≡ last_landing y.form job (finished y words) p =
          ap stamp_of e ∙ stamp_settled job y words (finished y words)
          stands.limits stands.sizes stands.layout stands.lawful (facts job y words stands).root_low
          (facts job y words stands).root_high (finished y words) p in inl (omega arith))
      | inr e ↦ (let s : stamp_at y words p 1 ≡ last_landing y.form job (finished y words) p =
          ap stamp_of e ∙ stamp_settled job y words (finished y words)
          stands.limits stands.sizes stands.layout stands.lawful (facts job y words stands).root_low
          (facts job y words stands).root_high (finished y words) p in inr (omega arith))
    ]

-- a word of a place that has changed since has a stamp above each finished step of then
pub changed : (job : JobData) (y : LayoutData) (words later : List ℕ) (x p k : ℕ) →
    Stands job y words → Stands job y later → Grows y words later →
    IsWord y (Stored p k) → x ≤ finished y words →
    held y later (Stored p k) ≢ held y words (Stored p k) → x < stamp_at y later p k
changed job y words later x p k stands after up is h other = elim (up (Stored p k) is) [
  | inl e ↦ absurd (other (sym e))
  | inr more ↦ elim (cases_lt x (stamp_at y later p k)) [
    | inl c ↦ c
    | inr c ↦ absurd (changed_late (stamp_at y later p k) refl c more.0 more.1)
  ]
]
  where
    changed_late : (s : ℕ) → stamp_at y later p k ≡ s → s ≤ x →
        stamp_at y words p 0 < s → stamp_at y words p 1 < s → ⊥
    changed_late zero e c one two = omega arith
    changed_late (suc s) e c one two =
        let w = ((facts job y later after).stored_from s p k is e).1 in
        let l = last_least y.form job stands.limits x p s c w in
        elim (top_low job y words x p stands is.0 h) [ inl t ↦ omega arith | inr t ↦ omega arith ]

module _ (job : JobData) (y : LayoutData) (words later : List ℕ) (stands : Stands job y words)
    (after : Stands job y later) (up : Grows y words later) where
  pub fin_up : finished y words ≤ finished y later
  fin_up =
      let r = root_up job y words later stands up in
      let l = (facts job y words stands).root_low in
      (facts job y later after).reached_finished (finished y words)
      (omega arith) stands.lawful.reached

  asked_same : y.form ≡ Compact → (i j s : ℕ) → i < y.procs → j < 3 →
      stamp_of (held y words (Asked i j)) ≡ suc s → stamp_of (held y later (Asked i j)) ≡ suc s →
      held y words (Asked i j) ≡ held y later (Asked i j)
  asked_same compact i j s proc part e g =
      let a = ((stands.lawful.asked compact i j proc part).part s e).1 in
      let b = ((after.lawful.asked compact i j proc part).part s g).1 in
      omega arith

  asked_by : y.form ≡ Compact → (i j s : ℕ) → i < y.procs → j < 3 →
      1 ≤ s → stamp_of (held y words (Asked i j)) ≡ s → stamp_of (held y later (Asked i j)) ≡ s →
      held y words (Asked i j) ≡ held y later (Asked i j)
  asked_by compact i j zero proc part some e g = absurd (omega arith)
  asked_by compact i j (suc s) proc part some e g = asked_same compact i j s proc part e g

  live : (x q : ℕ) → IsReached job x →
      3 * x < q → q ≤ 3 * x + 3 → q ≤ next_phase y.form (root y words) → root y later < q →
      (root y words < q) × (finished y words ≡ x) × (finished y later ≡ x)
  live x q reached low high floor now =
      let r = root_up job y words later stands up in
      let begun = next_step y.form (root y words) x (omega arith) in
      let a = (facts job y words stands).reached_finished x begun reached in
      let b = (facts job y words stands).root_low in
      let c = (facts job y later after).reached_finished x (omega arith) reached in
      let d = (facts job y later after).root_low in
      (omega arith, omega arith, omega arith)

  unwritten : (p k : ℕ) → IsWord y (Stored p k) →
      finished y words ≡ finished y later → stamp_at y later p k ≤ finished y later →
      held y words (Stored p k) ≡ held y later (Stored p k)
  unwritten p k is same low =
      elim (cases_eq (held y words (Stored p k)) (held y later (Stored p k))) [
        | inl e ↦ e
        | inr n ↦ absurd (let c = changed job y words later
            (finished y words) p k stands after up is (omega arith) (λ e. n (sym e)) in omega arith)
      ]

  unwritten_each : (p k : ℕ) → IsWord y (Stored p k) →
      finished y words ≡ finished y later → stamp_at y later p 0 ≤ finished y later →
      stamp_at y later p 1 ≤ finished y later →
      held y words (Stored p k) ≡ held y later (Stored p k)
  unwritten_each p zero is same a b = unwritten p zero is same a
  unwritten_each p (suc zero) is same a b = unwritten p (suc zero) is same b
  unwritten_each p (suc (suc k)) is same a b = absurd (let h = is.1 in omega arith)

  grown : LaterWords job y words later
  grown = record {
    finished_rises = fin_up;
    asked_same = λ compact i j proc part some e.
        asked_by compact i j (stamp_of (held y words (Asked i j))) proc part some refl (sym e);
    same_phase = live;
    stored_same = unwritten_each;
  }

pub growth_shows : GrowthShows
growth_shows job y words later stands after up = grown job y words later stands after up

-- ---- PlaceAsHeard

-- a word beside one with a stamp above x is of the last write up to x, at least
pub beside : (job : JobData) (y : LayoutData) (words : List ℕ) (x p a b : ℕ) →
    Stands job y words → IsPair y.form job (finished y words) (root y words) p a b →
    x ≤ finished y words → (x < stamp_of b → last_landing y.form job x p ≤ stamp_of a)
    × (x < stamp_of a → last_landing y.form job x p ≤ stamp_of b)
beside job y words x p a b stands (newer_first e g) h =
    let s : stamp_of a ≡ last_landing y.form job (finished y words) p =
    ap stamp_of e ∙ stamp_step y.form job stands.limits
    (last_landing y.form job (finished y words) p) p in
    let o : stamp_of b ≡ landing_before y.form job (last_landing y.form job (finished y words) p)
    p = ap stamp_of g
    ∙ stamp_step y.form job stands.limits (landing_before y.form job
    (last_landing y.form job (finished y words) p) p) p in
    let r = last_rises y.form job stands.limits x (finished y words) p h in (
      λ late. omega arith,
      λ late. (let m = before_rises y.form job stands.limits x
          (last_landing y.form job (finished y words) p) p (omega arith) in
          omega arith),
    )
beside job y words x p a b stands (newer_second e g some) h =
    let s : stamp_of b ≡ last_landing y.form job (finished y words) p =
    ap stamp_of e ∙ stamp_step y.form job stands.limits
    (last_landing y.form job (finished y words) p) p in
    let o : stamp_of a ≡ landing_before y.form job (last_landing y.form job (finished y words) p)
    p = ap stamp_of g
    ∙ stamp_step y.form job stands.limits (landing_before y.form job
    (last_landing y.form job (finished y words) p) p) p in
    let r = last_rises y.form job stands.limits x (finished y words) p h in (
      λ late. (let m = before_rises y.form job stands.limits x
          (last_landing y.form job (finished y words) p) p (omega arith) in
          omega arith),
      λ late. omega arith,
    )
beside job y words x p a b stands (new_first n e) h =
    let s : stamp_of b ≡ last_landing y.form job (finished y words) p =
    ap stamp_of e ∙ stamp_step y.form job stands.limits
    (last_landing y.form job (finished y words) p) p in
    let r = last_rises y.form job stands.limits x (finished y words) p h in
    let f = n.stamp in
    let m = last_most y.form job stands.limits (finished y words) p in
    (λ late. omega arith, λ late. omega arith)
beside job y words x p a b stands (new_second n e some) h =
    let s : stamp_of a ≡ last_landing y.form job (finished y words) p =
    ap stamp_of e ∙ stamp_step y.form job stands.limits
    (last_landing y.form job (finished y words) p) p in
    let r = last_rises y.form job stands.limits x (finished y words) p h in
    let f = n.stamp in
    let m = last_most y.form job stands.limits (finished y words) p in
    (λ late. omega arith, λ late. omega arith)

-- the second word is written only when the first one was
first_some : (job : JobData) (y : LayoutData) (words : List ℕ) (p a b : ℕ) →
    Stands job y words → IsPair y.form job (finished y words) (root y words) p a b →
    1 ≤ stamp_of b → 1 ≤ stamp_of a
first_some job y words p a b stands (newer_first e g) h =
    let s : stamp_of a ≡ last_landing y.form job (finished y words) p =
    ap stamp_of e ∙ stamp_settled job
    y words (finished y words) stands.limits stands.sizes stands.layout stands.lawful
    (facts job y words stands).root_low (facts job y words stands).root_high (finished y words) p in
    let o : stamp_of b ≡ landing_before y.form job
    (last_landing y.form job (finished y words) p) p =
    ap stamp_of g ∙ stamp_before job y words
    (finished y words) stands.limits stands.sizes stands.layout stands.lawful
    (facts job y words stands).root_low (facts job y words stands).root_high (finished y words) p in
    let m = before_most y.form job stands.limits (last_landing y.form job (finished y words) p) p in
    omega arith
first_some job y words p a b stands (newer_second e g some) h = some
first_some job y words p a b stands (new_first n e) h = let s = n.stamp in omega arith
first_some job y words p a b stands (new_second n e some) h = some

module _ (job : JobData) (y : LayoutData) (x p a b : ℕ) (first second now : List ℕ)
    (s1 : Stands job y first) (s2 : Stands job y second)
    (s3 : Stands job y now) (up : Grows y first second) (on : Grows y second now)
    (place : p < places_of y) (reached : IsReached job x) (low : 3 * x ≤ root y first)
    (is_a : a ≡ held y first (Stored p 0)) (is_b : b ≡ held y second (Stored p 1))
    (early_a : stamp_of a ≤ x) (early_b : stamp_of b ≤ x) where
  fin_first : x ≤ finished y first
  fin_first = (facts job y first s1).reached_finished x low reached

  fin_second : x ≤ finished y second
  fin_second = let f = fin_first in let g = fin_up job y first second s1 s2 up in omega arith

  fin_now : x ≤ finished y now
  fin_now = let f = fin_second in let g = fin_up job y second now s2 s3 on in omega arith

  stamp_x : stamp_of (settled y.form job x p) ≡ last_landing y.form job x p
  stamp_x = stamp_settled job y first (finished y first) s1.limits s1.sizes s1.layout s1.lawful
      (facts job y first s1).root_low (facts job y first s1).root_high x p

  stamp_x_before : stamp_of (settled_before y.form job x p) ≡ landing_before y.form job
      (last_landing y.form job x p) p
  stamp_x_before = stamp_before job y first (finished y first) s1.limits s1.sizes s1.layout
      s1.lawful (facts job y first s1).root_low (facts job y first s1).root_high x p

  told_x : payload_of (settled y.form job x p)
      ≡ slice_index (state_after job (landed_step y.form job x p)) p
  told_x = settled_tells y.form job s1.limits x p (place_below job y first
      (finished y first) s1.limits s1.sizes s1.layout s1.lawful (facts job y first s1).root_low
      (facts job y first s1).root_high p place)

  -- the word before the last one is the last one, where there is none
  before_none : last_landing y.form job x p ≡ 0 →
      settled_before y.form job x p ≡ settled y.form job x p
  before_none none = ap (λ (n : ℕ). word_of_step job n p)
      (let m = before_most y.form job s1.limits (last_landing y.form job x p) p in omega arith)

  Heard : ℕ → Type 0
  Heard word =
      (word ≡ settled y.form job x p) ⊎ ((word ≡ settled_before y.form job x p) ×
      (1 ≤ last_landing y.form job x p))

  heard_of : (word other : ℕ) → (word ≡ settled y.form job x p)
      ⊎ ((word ≡ settled_before y.form job x p) × (last_landing y.form job x p ≤ other)) →
      Heard word
  unfolding Heard
  heard_of word other (inl e) = inl e
  heard_of word other (inr e) = elim (cases_lt (last_landing y.form job x p) 1) [
    | inl c ↦ inl (e.0 ∙ before_none (omega arith))
    | inr c ↦ inr (e.0, c)
  ]

  upto_a : (a ≡ settled y.form job x p)
      ⊎ ((a ≡ settled_before y.form job x p) × (last_landing y.form job x p ≤ stamp_at y first p 1))
  upto_a = subst (λ (w : ℕ). (w ≡ settled y.form job x p)
      ⊎ ((w ≡ settled_before y.form job x p) × (last_landing y.form job x p ≤ stamp_at y first p
      1))) (sym is_a) ((facts job y first s1).stored_upto x p 0 (place, lit< tt) fin_first
      (let e = ap stamp_of is_a in omega arith))

  upto_b : (b ≡ settled y.form job x p)
      ⊎ ((b ≡ settled_before y.form job x p) ×
      (last_landing y.form job x p ≤ stamp_at y second p 0))
  upto_b = subst (λ (w : ℕ). (w ≡ settled y.form job x p)
      ⊎ ((w ≡ settled_before y.form job x p) × (last_landing y.form job x p ≤ stamp_at y second p
      0))) (sym is_b) ((facts job y second s2).stored_upto x p 1 (place, lit< tt) fin_second
      (let e = ap stamp_of is_b in omega arith))

  heard_a : Heard a
  heard_a = heard_of a (stamp_at y first p 1) upto_a

  heard_b : Heard b
  heard_b = heard_of b (stamp_at y second p 0) upto_b

  -- both words were not heard as the one before
  not_both : a ≡ settled_before y.form job x p → 1 ≤ last_landing y.form job x p →
      b ≡ settled_before y.form job x p → ⊥
  not_both e some g =
      let less = before_less y.form job s1.limits (last_landing y.form job x p) p some in
      let sb : stamp_of b ≡ landing_before y.form job (last_landing y.form job x p) p =
      ap stamp_of g ∙ stamp_x_before in
      let sa : stamp_of a ≡ landing_before y.form job (last_landing y.form job x p) p =
      ap stamp_of e ∙ stamp_x_before in
      let rise : stamp_at y first p 1 ≤ stamp_at y second p 1 =
      stamps_rise y first second p 1 (place, lit< tt) up in
      let same : stamp_of b ≡ stamp_at y second p 1 = ap stamp_of is_b in
      elim upto_a [
        | inl f ↦ (let k : stamp_of a ≡ last_landing y.form job x p =
            ap stamp_of f ∙ stamp_x in omega arith)
        | inr f ↦ (let k = f.1 in omega arith)
      ]

  -- nor both as the last one
  not_twice : stamp_of a ≡ last_landing y.form job x p →
      stamp_of b ≡ last_landing y.form job x p → last_landing y.form job x p ≡ 0
  not_twice ea eb =
      let fa : stamp_of a ≡ stamp_at y first p 0 = ap stamp_of is_a in
      let fb : stamp_of b ≡ stamp_at y second p 1 = ap stamp_of is_b in
      elim (cases_eq (stamp_at y first p 0) (stamp_at y first p 1)) [
        | inl e ↦ (let z = (facts job y first s1).stamps_apart p place e in omega arith)
        | inr n ↦ elim (up (Stored p 1) (place, lit< tt)) [
          | inl e ↦ absurd (n (let g : stamp_at y first p 1 ≡ stamp_at y second p 1 =
              ap stamp_of e in omega arith))
          | inr more ↦ absurd (let m = more.0 in omega arith)
        ]
      ]

  most_a : stamp_of a ≤ last_landing y.form job x p
  unfolding Heard
  most_a = elim heard_a [
    | inl e ↦ (let s : stamp_of a ≡ last_landing y.form job x p =
        ap stamp_of e ∙ stamp_x in omega arith)
    | inr e ↦ (let s : stamp_of a ≡ landing_before y.form job (last_landing y.form job x p) p =
        ap stamp_of e.0 ∙ stamp_x_before in
        let m = before_most y.form job s1.limits (last_landing y.form job x p) p in omega arith)
  ]

  most_b : stamp_of b ≤ last_landing y.form job x p
  unfolding Heard
  most_b = elim heard_b [
    | inl e ↦ (let s : stamp_of b ≡ last_landing y.form job x p =
        ap stamp_of e ∙ stamp_x in omega arith)
    | inr e ↦ (let s : stamp_of b ≡ landing_before y.form job (last_landing y.form job x p) p =
        ap stamp_of e.0 ∙ stamp_x_before in
        let m = before_most y.form job s1.limits (last_landing y.form job x p) p in omega arith)
  ]

  -- the newer one is the settled one
  pub newer_two : newer_word a b ≡ settled y.form job x p
  unfolding Heard
  newer_two = elim heard_a [
    | inl e ↦ elim heard_b [
      | inl g ↦ elim (cases_lt (stamp_of b) (stamp_of a)) [
        | inl c ↦ newer_is_first a b c ∙ e
        | inr c ↦ newer_is_second a b c ∙ g
      ]
      | inr g ↦ (let s : stamp_of a ≡ last_landing y.form job x p = ap stamp_of e ∙ stamp_x in
          let o : stamp_of b ≡ landing_before y.form job (last_landing y.form job x p) p =
          ap stamp_of g.0 ∙ stamp_x_before in
          let less = before_less y.form job s1.limits (last_landing y.form job x p) p g.1 in
          newer_is_first a b (omega arith) ∙ e)
    ]
    | inr e ↦ elim heard_b [
      | inl g ↦ (let s : stamp_of b ≡ last_landing y.form job x p = ap stamp_of g ∙ stamp_x in
          let m = most_a in
          newer_is_second a b (omega arith) ∙ g)
      | inr g ↦ absurd (not_both e.0 e.1 g.0)
    ]
  ]

  value_of : payload_of (newer_word a b)
      ≡ slice_index (state_after job (landed_step y.form job x p)) p
  value_of = ap payload_of newer_two ∙ told_x

  rise_a : stamp_of a ≤ stamp_at y now p 0
  rise_a =
      let e = ap stamp_of is_a in
      let r = stamps_rise y first now p 0 (place, lit< tt) (onward y first second now up on) in
      omega arith

  rise_b : stamp_of b ≤ stamp_at y now p 1
  rise_b =
      let e = ap stamp_of is_b in
      let r = stamps_rise y second now p 1 (place, lit< tt) on in omega arith

  -- the first word is the older one, and still stands
  first_stands : stamp_of a ≤ stamp_of b → held y now (Stored p 0) ≡ a →
      (stamp_at y now p 0 ≤ x) × (stamp_at y now p 1 ≤ x)
  first_stands less still =
      let s : stamp_at y now p 0 ≡ stamp_of a = ap stamp_of still in
      elim (cases_lt x (stamp_at y now p 1)) [
        | inr c ↦ (omega arith, c)
        | inl c ↦ absurd (
            let top = (beside job y now x p _ _ s3 (s3.lawful.stored p place) fin_now).0 c in
            let ma = most_a in let mb = most_b in
            let none = not_twice (omega arith) (omega arith) in
            let some = first_some job y now p _ _ s3 (s3.lawful.stored p place) (omega arith) in
            omega arith
            )
      ]

  second_stands : stamp_of b < stamp_of a → held y now (Stored p 1) ≡ b →
      (stamp_at y now p 0 ≤ x) × (stamp_at y now p 1 ≤ x)
  second_stands less still =
      let s : stamp_at y now p 1 ≡ stamp_of b = ap stamp_of still in
      elim (cases_lt x (stamp_at y now p 0)) [
        | inr c ↦ (c, omega arith)
        | inl c ↦ absurd (let top =
            (beside job y now x p _ _ s3 (s3.lawful.stored p place) fin_now).1 c in
            let ma = most_a in omega arith)
      ]

  stands_of : held y now (Stored p (older a b)) ≡ older_word a b →
      (stamp_at y now p 0 ≤ x) × (stamp_at y now p 1 ≤ x)
      × (first_is_older (held y now (Stored p 0)) (held y now (Stored p 1)) ≡ first_is_older a b)
  stands_of = elim (cases_lt (stamp_of b) (stamp_of a)) [
    | inl c ↦ rw (lt-leb (stamp_of a) (stamp_of b) c) (λ still. let h = second_stands c still in (
      h.0,
      h.1,
      (let s : stamp_at y now p 1 ≡ stamp_of b = ap stamp_of still in
          let r = rise_a in lt-leb (stamp_at y now p 0) (stamp_at y now p 1) (omega arith)),
    ))
    | inr c ↦ rw (le-leb (stamp_of a) (stamp_of b) c) (λ still. let h = first_stands c still in (
      h.0,
      h.1,
      (let s : stamp_at y now p 0 ≡ stamp_of a = ap stamp_of still in
          let r = rise_b in le-leb (stamp_at y now p 0) (stamp_at y now p 1) (omega arith)),
    ))
  ]

  written_of : held y now (Stored p (older a b)) ≢ older_word a b → IsLate y x p now
  written_of = elim (cases_lt (stamp_of b) (stamp_of a)) [
    | inl c ↦ rw (lt-leb (stamp_of a) (stamp_of b) c) (λ other. inr (changed job
        y second now x p 1 s2 s3 on (place, lit< tt) fin_second (λ e. other (e ∙ sym is_b))))
    | inr c ↦
        rw (le-leb (stamp_of a) (stamp_of b) c) (λ other. inl (changed job y first now x p 0 s1 s3
        (onward y first second now up on) (place, lit< tt) fin_first (λ e. other (e ∙ sym is_a))))
  ]

  two_moments : PlaceAsHeard job y x p a b now
  two_moments = record { value = value_of; stands = stands_of; written = written_of }

early_both : (x a b : ℕ) → is_late (suc x) a b ≡ false → (stamp_of a ≤ x) × (stamp_of b ≤ x)
early_both x a b e = elim (cases_Bool (nat_le (suc x) (stamp_of a))) [
  | inl h ↦ absurd (let f : true ≡ false = rw h at e in cc)
  | inr h ↦ (let f : nat_le (suc x) (stamp_of b) ≡ false = rw h at e in (
    let l = leb-false (suc x) (stamp_of a) h in omega arith,
    let l = leb-false (suc x) (stamp_of b) f in omega arith,
  ))
]

pub place_as_heard : PlacesAreAsHeard
place_as_heard job y x p a b first second now s1 s2 s3 up on place reached low is_a is_b early =
    let h = early_both x a b early in
    two_moments job y x p a b first second now s1 s2 s3 up on place reached low is_a is_b h.0 h.1
