-- Two words of a place, heard one after the other, where one may be of the step after x steps: the
-- other one is the settled word.
use Rattle.std.proofs.Common.{◌≡◌, ℕ, suc, ◌*◌, ◌<◌, ◌≤◌, false, List, refl, ap}
use Rattle.std.proofs.Common.{◌∙◌, inl, inr, lit<, arith}
use Rattle.std.proofs.lemmas.Bool.{cases_eq, cases_lt, eq-eqb, ltb-false, ne_eqb, or_parts}
use Rattle.pram_job.specs.Job.{JobData}
use Rattle.pram_step.specs.Runs.{IsReached}
use Rattle.pram_words.specs.declared.words.Word.TheVariants.{Stored}
use Rattle.pram_words.specs.Stamps.{stamp_of, newer_word}
use Rattle.pram_words.specs.Words.{LayoutData, IsWord, places_of}
use Rattle.walkx.specs.Passes.{is_beyond, word_before}
use Rattle.lawful_walk.specs.Board.{Grows, finished, held, root, stamp_at, Stands}
use Rattle.lawful_walk.specs.Lands.{landing_before, last_landing, settled}
use Rattle.lawful_walk.specs.Lands.{word_of_step}
use Rattle.lawful_walk.proofs.Facts.{facts}
use Rattle.lawful_walk.proofs.Growths.{beside, fin_up, newer_two, top_low}
use Rattle.lawful_walk.proofs.Landings.{before_most, stamp_step}
use Rattle.lawful_walk.proofs.Moments.{same, stamps_rise}
use Rattle.lawful_walk.proofs.Values.{before_less}

-- the word before: the other one, where one is of the step
first_new : (t a b : ℕ) → stamp_of a ≡ t → word_before t a b ≡ b
first_new t a b e = rw (eq-eqb (stamp_of a) t e) refl

second_new : (t a b : ℕ) → (stamp_of a ≡ t → ⊥) → stamp_of b ≡ t → word_before t a b ≡ a
second_new t a b n e = rw (ne_eqb (stamp_of a) t n, eq-eqb (stamp_of b) t e) refl

none_new : (t a b : ℕ) → (stamp_of a ≡ t → ⊥) → (stamp_of b ≡ t → ⊥) →
    word_before t a b ≡ newer_word a b
none_new t a b n m = rw (ne_eqb (stamp_of a) t n, ne_eqb (stamp_of b) t m) refl

-- a word up to step x is the settled one, if it is no older than that
settled_by : (job : JobData) (y : LayoutData) (words : List ℕ) (x p k : ℕ) → Stands job y words →
    IsWord y (Stored p k) → x ≤ finished y words → stamp_at y words p k ≤ x →
    last_landing y.form job x p ≤ stamp_at y words p k →
    held y words (Stored p k) ≡ settled y.form job x p
settled_by job y words x p k stands is h low last =
    let l = last_landing y.form job x p in
    elim ((facts job y words stands).stored_upto x p k is h low) [
      | inl e ↦ e
      | inr e ↦ (
          let b = landing_before y.form job l p in
          let stamp : stamp_at y words p k ≡ b =
          ap stamp_of e.0 ∙ stamp_step y.form job stands.limits b p in
          elim (cases_lt l 1) [
            | inl none ↦ e.0 ∙ ap (λ (n : ℕ). word_of_step job n p)
                (let m = before_most y.form job stands.limits l p in omega (arith, none, m))
            | inr some ↦ absurd (let less = before_less y.form job stands.limits l p some in
                omega (arith, less, stamp, last))
          ])
    ]

module _ (job : JobData) (y : LayoutData) (x p a b : ℕ) (first second : List ℕ)
    (s1 : Stands job y first) (s2 : Stands job y second) (up : Grows y first second)
    (place : p < places_of y) (reached : IsReached job x) (low : 3 * x ≤ root y first)
    (is_a : a ≡ held y first (Stored p 0)) (is_b : b ≡ held y second (Stored p 1)) where
  at_first : x ≤ finished y first
  at_first = (facts job y first s1).reached_finished x low reached

  at_second : x ≤ finished y second
  at_second =
      let f = at_first in
      let g = fin_up job y first second s1 s2 up in omega (arith, f, g)

  stamp_a : stamp_of a ≡ stamp_at y first p 0
  stamp_a = ap stamp_of is_a

  stamp_b : stamp_of b ≡ stamp_at y second p 1
  stamp_b = ap stamp_of is_b

  -- the first one is of the step: the second one is not
  second_old : stamp_of a ≡ suc x → stamp_of b ≤ suc x → b ≡ settled y.form job x p
  second_old e most =
      let sa = stamp_a in
      let sb = stamp_b in
      let rise = stamps_rise y first second p 0 (place, lit< tt) up in
      let old : stamp_at y second p 1 ≤ x = elim (cases_lt x (stamp_at y second p 1)) [
        | inr c ↦ c
        | inl c ↦ absurd (elim (up (Stored p 1) (place, lit< tt)) [
          | inl same ↦ (let s : stamp_at y first p 1 ≡ stamp_at y second p 1 = ap stamp_of same in
              let z = (facts job y first s1).stamps_apart p place
              (omega (arith, sa, sb, e, s, c, most)) in omega (arith, z, sa, e))
          | inr more ↦ (let m = more.0 in omega (arith, m, sa, sb, e, most))
        ])
      ] in
      let last = (beside job y second x p _ _ s2 (s2.lawful.stored p place) at_second).1
      (omega (arith, rise, sa, e)) in
      is_b ∙ settled_by job y second x p 1 s2 (place, lit< tt) at_second old last

  -- the second one is of the step: the first one, heard before, was the newer one if none was then
  first_old : stamp_of a ≤ x → stamp_of b ≡ suc x → a ≡ settled y.form job x p
  first_old old e =
      let sa = stamp_a in
      let sb = stamp_b in
      let last : last_landing y.form job x p ≤ stamp_at y first p 0 =
      elim (up (Stored p 1) (place, lit< tt)) [
        | inl same ↦ (let s : stamp_at y first p 1 ≡ stamp_at y second p 1 = ap stamp_of same in
            (beside job y first x p _ _ s1 (s1.lawful.stored p place) at_first).0
            (omega (arith, s, sb, e)))
        | inr more ↦ (
            let newer : stamp_at y first p 1 ≤ stamp_at y first p 0 =
            elim (cases_lt (stamp_at y first p 0) (stamp_at y first p 1)) [
              | inr c ↦ c
              | inl c ↦ absurd (let m = (more.2 s1.sizes.leaves.0).1 c in
                  omega (arith, m, sb, e, low))
            ] in
            elim (top_low job y first x p s1 place at_first) [
              | inl t ↦ t
              | inr t ↦ omega (arith, t, newer)
            ])
      ] in
      is_a ∙ settled_by job y first x p 0 s1 (place, lit< tt) at_first
      (omega (arith, sa, old)) last

  -- The one that was written before the step is the settled word.
  pub heard_settled : is_beyond (suc x) a b ≡ false →
      word_before (suc x) a b ≡ settled y.form job x p
  heard_settled near =
      let parts = or_parts _ _ near in
      let most_a = ltb-false (suc x) (stamp_of a) parts.0 in
      let most_b = ltb-false (suc x) (stamp_of b) parts.1 in
      elim (cases_eq (stamp_of a) (suc x)) [
        | inl e ↦ first_new (suc x) a b e ∙ second_old e most_b
        | inr n ↦ elim (cases_eq (stamp_of b) (suc x)) [
          | inl e ↦ second_new (suc x) a b n e ∙ first_old (below most_a n) e
          | inr m ↦ none_new (suc x) a b n m
              ∙ newer_two job y x p a b first second second s1 s2 s2 up (same y second) place
              reached low is_a is_b (below most_a n) (below most_b m)
        ]
      ]
    where
      below : {s : ℕ} → s ≤ suc x → (s ≡ suc x → ⊥) → s ≤ x
      below most other = omega (arith, most, other)
