-- One block of a task, by the lemmas on words: a place is written.
use Rattle.std.proofs.Common.{◌≡◌, ℕ, zero, suc, ◌*◌, ◌<◌, ◌≤◌, true, false, nat_le, List, ◌∷◌}
use Rattle.std.proofs.Common.{length, sym, ap, subst, inl, inr, get_or-set_same, lit<, arith}
use Rattle.std.proofs.lemmas.Bool.{cond_both, cases_eq, cases_Bool, eq-eqb, leb-true}
use Rattle.std.specs.Prelude.{slice_set}
use Rattle.pram_job.specs.Job.{JobData}
use Rattle.pram_step.specs.History.{Wins}
use Rattle.pram_words.proofs.NextPhases.{next_step}
use Rattle.pram_words.proofs.Numbering.{numbering}
use Rattle.pram_words.specs.Phases.{step_at}
use Rattle.pram_words.specs.Stamps.{stamp_of, stamped_word, first_is_older, older, older_word}
use Rattle.pram_words.specs.Words.{LayoutData, number_of, places_of}
use Rattle.pram_words.specs.declared.words.Word.TheVariants.{Stored}
use Rattle.walk_memory.proofs.Boards.{same_cells, same_procs}
use Rattle.walkx.specs.Operations.{words_after}
use Rattle.walkx.specs.Scripts.{Script, asks}
use Rattle.walkx.specs.Tasks.{is_late, writes_place}
use Rattle.walkx.specs.Walk.{Then}
use Rattle.walk_memory.specs.Blocks.{IsBoard}
use Rattle.walkx.specs.declared.operation.Op.{Op}
use Rattle.walkx.specs.declared.operation.Op.TheVariants.{Load, Swap}
use Rattle.lawful_walk.specs.Lands.{Lands, phase_written}
use Rattle.lawful_walk.proofs.Moments.{onward, stamps_rise}
use Rattle.lawful_walk.specs.Board.{held, root, stamp_at, IsLate, Grows, Stands}
use Rattle.lawful_walk.proofs.Effects.{writes_keep}
use Rattle.lawful_walk.proofs.Growths.{place_as_heard}
use Rattle.lawful_walk.proofs.Scripts.{Aim, Safe, both_safe, goes_of}
use Rattle.lawful_walk.proofs.Sees.{Sees, Lasts, so, heard}
use Rattle.lawful_walk.proofs.Values.{phase_low}
use Rattle.lawful_walk.specs.Moments.{Moment}
use Rattle.lawful_walk.specs.Walks.{Goes}
use Rattle.lawful_walk.specs.Writes.{PlaceAsHeard, Floor}
use Rattle.lawful_walk.proofs.Winners.{lands_below}

pub late_later : (y : LayoutData) (x p : ℕ) (words after : List ℕ) → p < places_of y →
    Grows y words after → IsLate y x p words → IsLate y x p after
late_later y x p words after place up late = elim late [
  | inl a ↦ (let r = stamps_rise y words after p 0 (place, lit< tt) up in inl (omega arith))
  | inr b ↦ (let r = stamps_rise y words after p 1 (place, lit< tt) up in inr (omega arith))
]

-- a word of a place takes a stamp above x
pub set_late : (job : JobData) (y : LayoutData) (x p k w : ℕ) (words : List ℕ) →
    p < places_of y → k < 2 → Stands job y words → x < stamp_of w →
    IsLate y x p (slice_set words (number_of y (Stored p k)) w)
set_late job y x p zero w words place two stands more =
    let below : number_of y (Stored p 0) < length words =
    (let n = (numbering y stands.sizes).below (Stored p 0) (place, two) in
    let l = stands.admitted.len in omega arith) in
    let is : held y (slice_set words (number_of y (Stored p 0)) w) (Stored p 0) ≡ w =
    get_or-set_same words (number_of y (Stored p 0)) w 0 below in
    inl (subst (λ (a : ℕ). x < stamp_of a) (sym is) more)
set_late job y x p (suc zero) w words place two stands more =
    let below : number_of y (Stored p 1) < length words =
    (let n = (numbering y stands.sizes).below (Stored p 1) (place, two) in
    let l = stands.admitted.len in omega arith) in
    let is : held y (slice_set words (number_of y (Stored p 1)) w) (Stored p 1) ≡ w =
    get_or-set_same words (number_of y (Stored p 1)) w 0 below in
    inr (subst (λ (a : ℕ). x < stamp_of a) (sym is) more)
set_late job y x p (suc (suc k)) w words place two stands more = absurd (omega arith)

pub older_two : (a b : ℕ) → older a b < 2
older_two a b = cond_both (first_is_older a b) 0 1 (λ k. k < 2) (λ e. lit< tt) (λ e. lit< tt)

module _ (job : JobData) (y : LayoutData)
    (w q : ℕ) (aim : Aim) (x p i v : ℕ) (proc : i < y.procs)
    (some : 1 ≤ q) (most : q ≤ 3 * job.steps) (step : step_at q ≡ suc x)
    (phase : q ≡ phase_written y.form job p x) (P : List ℕ → Type 0) (lasts : Lasts job y P)
    (floor : (words : List ℕ) → P words → Floor job y q x words)
    (asked : (words : List ℕ) → P words → Lands y.form job x p i v × Wins job x p i) where
  place_by : (words : List ℕ) → Stands job y words → P words → p < places_of y
  place_by words stands k =
      let is_board : IsBoard job y =
      record { limits = stands.limits; layout = stands.sizes; is = stands.layout } in
      let b = same_cells job y is_board in
      let c = same_procs job y is_board in
      let a = lands_below y.form job x p i v stands.limits (omega (arith, proc, c))
      (asked words k).0 in
      omega (arith, a, b, c)

  Both : ℕ → ℕ → List ℕ → Type 0
  Both a b = Moment job y (Load (number_of y (Stored p 1))) b
      (Moment job y (Load (number_of y (Stored p 0))) a P)

  swap : ℕ → ℕ → Op
  swap a b = Swap (number_of y (Stored p (older a b))) (older_word a b) (stamped_word (suc x) v)

  still : (a b : ℕ) (words : List ℕ) → Stands job y words → Both a b words → P words
  unfolding Both
  still a b words stands m =
      let first = m.earlier in
      lasts first.words words first.stands stands
      (onward y first.words m.words words
      (onward y first.words first.words m.words first.grew first.since)
      (onward y m.words m.words words m.grew m.since)) first.earlier

  -- what was heard of the place is late, and so it is
  heard_late : (a b : ℕ) (words : List ℕ) → Stands job y words → Both a b words →
      is_late (suc x) a b ≡ true → IsLate y x p words
  unfolding Both
  heard_late a b words stands m late =
      let first = m.earlier in
      let place = place_by first.words first.stands first.earlier in
      let up = onward y first.words m.words words first.since m.since in
      let one : stamp_at y first.words p 0 ≤ stamp_at y words p 0 =
      stamps_rise y first.words words p 0 (place, lit< tt) up in
      let two : stamp_at y m.words p 1 ≤ stamp_at y words p 1 =
      stamps_rise y m.words words p 1 (place, lit< tt) m.since in
      let is_one : stamp_of a ≡ stamp_at y first.words p 0 = ap stamp_of first.heard in
      let is_two : stamp_of b ≡ stamp_at y m.words p 1 = ap stamp_of m.heard in
      elim (cases_Bool (nat_le (suc x) (stamp_of a))) [
        | inl h ↦ (let l = leb-true (suc x) (stamp_of a) h in inl (omega arith))
        | inr h ↦ (let l : nat_le (suc x) (stamp_of b) ≡ true = rw h at late in
            let k = leb-true (suc x) (stamp_of b) l in inr (omega arith))
      ]

  heard_early : (a b : ℕ) (words : List ℕ) → Stands job y words → Both a b words →
      is_late (suc x) a b ≡ false → PlaceAsHeard job y x p a b words
  unfolding Both
  heard_early a b words stands m early =
      let first = m.earlier in
      let place = place_by first.words first.stands first.earlier in
      let reached = (floor first.words first.earlier).reached in
      let low = (floor first.words first.earlier).root in
      let low_phase = phase_low y.form job p x in
      let begun = next_step y.form (root y first.words) x (omega arith) in
      place_as_heard job y x p a b first.words m.words words first.stands m.stands stands
      first.since m.since place reached begun first.heard m.heard early

  -- after the swap the place is late, whether it succeeded or not
  swapped : (a b found : ℕ) (words : List ℕ) → Stands job y words →
      Moment job y (swap a b) found
      (λ then_words. P then_words × PlaceAsHeard job y x p a b then_words) words →
      IsLate y x p words
  unfolding swap
  swapped a b found words stands m =
      let place = place_by m.words m.stands m.earlier.0 in
      late_later y x p (words_after m.words (swap a b)) words place m.since
      (elim (cases_eq (held y m.words (Stored p (older a b))) (older_word a b)) [
        | inl same ↦ rw (eq-eqb (held y m.words (Stored p (older a b))) (older_word a b) same)
            (set_late job y x p (older a b) (stamped_word (suc x) v) m.words place
            (older_two a b) m.stands (omega arith))
        | inr other ↦ late_later y x p m.words
            (words_after m.words (swap a b)) place m.grew (m.earlier.1.written other)
      ])

  pub writes_safe : (after : Script Then) (history : List (Op × ℕ)) →
      Sees job y history P →
      ((longer : List (Op × ℕ)) → Sees job y longer (λ words. P words × IsLate y x p words) →
      Safe job y w q aim after longer) →
      Safe job y w q aim (writes_place y (suc x) p v after) history
  unfolding Both swap
  writes_safe after history sees next =
      both_safe job y w q aim p _ history P sees (λ a b longer known.
      cond_both (is_late (suc x) a b) after (asks (swap a b) (λ found. after))
      (λ s. Safe job y w q aim s longer)
      (λ late. next longer (so job y longer (Both a b) (λ words. P words × IsLate y x p words)
      (λ words stands m. (still a b words stands m, heard_late a b words stands m late)) known))
      (λ early.
      let pair : Sees job y longer (λ words. P words × PlaceAsHeard job y x p a b words) = so job y
      longer (Both a b) (λ words. P words × PlaceAsHeard job y x p a b words) (λ words stands m. (
        still a b words stands m,
        heard_early a b words stands m early,
      )) known in (
        so job y longer (λ words. P words × PlaceAsHeard job y x p a b words)
            (λ words. aim.given words → Goes job y w q (swap a b) words)
            (λ words stands h given. goes_of job y w q (swap a b) words
            ((writes_keep job y words q x stands some most step (floor words h.0)).place
            p i v a b proc phase (asked words h.0).0 (asked words h.0).1 h.1)) pair,
        λ found ok. next ((swap a b, found) ∷ longer)
            (so job y ((swap a b, found) ∷ longer)
            (Moment job y (swap a b) found (λ words. P words × PlaceAsHeard job y x p a b words))
            (λ words. P words × IsLate y x p words)
            (λ words stands m. (
              lasts m.words words m.stands stands
                  (onward y m.words (words_after m.words (swap a b)) words m.grew m.since)
                  m.earlier.0,
              swapped a b found words stands m,
            ))
            (heard job y longer (λ words. P words × PlaceAsHeard job y x p a b words)
            (swap a b) found pair)),
      )))
