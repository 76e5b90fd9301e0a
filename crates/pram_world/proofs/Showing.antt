-- Lawful words show the machine: what a place held after each finished step, and which stamps are
-- new.
use Rattle.std.proofs.Common.{◌≡◌, ℕ, suc, ◌-◌, ◌<◌, ◌≤◌, List, Some, IfSome, subst, inl, inr, refl}
use Rattle.std.proofs.Common.{arith}
use Rattle.std.proofs.lemmas.Bool.{cases_lt, le-leb, lt-leb}
use Rattle.pram_job.specs.Job.{JobData}
use Rattle.pram_words.specs.declared.words.Word.TheVariants.{Stored}
use Rattle.pram_words.specs.Phases.{next_phase}
use Rattle.pram_words.specs.Stamps.{stamp_of, newer_word}
use Rattle.pram_words.specs.Words.{LayoutData, IsWord, places_of}
use Rattle.lawful_walk.specs.Board.{Stands, root, stamp_at, finished}
use Rattle.lawful_walk.specs.Lands.{IsLanded, phase_written}
use Rattle.lawful_walk.proofs.Facts.{WordsShow, facts}
use Rattle.lawful_walk.proofs.Places.{finished_held, last_held}
use Rattle.lawful_walk.proofs.Values.{under_way}
use Rattle.pram_world.specs.Interleavings.{ShowsMachine, TellsPlace, newest_by, newest_upto}

-- ---- the newest of two words up to a step, by the cases of their stamps

newest_both : (x a b : ℕ) → stamp_of a ≤ x → stamp_of b ≤ x →
    newest_by x a b ≡ Some (newer_word a b)
newest_both x a b low also = rw (le-leb (stamp_of a) x low, le-leb (stamp_of b) x also) refl

newest_first : (x a b : ℕ) → stamp_of a ≤ x → x < stamp_of b → newest_by x a b ≡ Some a
newest_first x a b low high = rw (le-leb (stamp_of a) x low, lt-leb (stamp_of b) x high) refl

newest_second : (x a b : ℕ) → x < stamp_of a → stamp_of b ≤ x → newest_by x a b ≡ Some b
newest_second x a b high low = rw (lt-leb (stamp_of a) x high, le-leb (stamp_of b) x low) refl

newest_none : (x a b : ℕ) (P : ℕ → Type 0) → x < stamp_of a → x < stamp_of b →
    IfSome (newest_by x a b) P
newest_none x a b P high also = rw (lt-leb (stamp_of a) x high, lt-leb (stamp_of b) x also) tt

-- ---- words that stand

module _ (job : JobData) (y : LayoutData) (words : List ℕ) (stands : Stands job y words) where
  shown : WordsShow job y words
  shown = facts job y words stands

  pub holds_now : (p : ℕ) → p < places_of y → (word : ℕ)
      × (newest_upto y words (finished y words) p ≡ Some word)
      × TellsPlace job y (finished y words) p word
  holds_now p place =
      let x = finished y words in
      let h = finished_held job y words x p stands place (omega arith) in
      elim (cases_lt x (stamp_at y words p 0)) [
        | inl high ↦ elim (cases_lt x (stamp_at y words p 1)) [
          | inl also ↦ absurd (elim (last_held job y words p stands place) [
            | inl l ↦ omega (arith, l, high)
            | inr l ↦ omega (arith, l, also)
          ])
          | inr low ↦ (_, newest_second x _ _ high low, h.1 low high)
        ]
        | inr low ↦ elim (cases_lt x (stamp_at y words p 1)) [
          | inl high ↦ (_, newest_first x _ _ low high, h.0 low high)
          | inr also ↦ (_, newest_both x _ _ low also, h.2 low also)
        ]
      ]

  pub holds_before : (x p : ℕ) → x ≤ finished y words → p < places_of y →
      IfSome (newest_upto y words x p) (TellsPlace job y x p)
  holds_before x p upto place =
      let h = finished_held job y words x p stands place upto in
      elim (cases_lt x (stamp_at y words p 0)) [
        | inl high ↦ elim (cases_lt x (stamp_at y words p 1)) [
          | inl also ↦ newest_none x _ _ (TellsPlace job y x p) high also
          | inr low ↦ rw (newest_second x _ _ high low) (h.1 low high)
        ]
        | inr low ↦ elim (cases_lt x (stamp_at y words p 1)) [
          | inl high ↦ rw (newest_first x _ _ low high) (h.0 low high)
          | inr also ↦ rw (newest_both x _ _ low also) (h.2 low also)
        ]
      ]

  pub new_next : (p k : ℕ) → IsWord y (Stored p k) → finished y words < stamp_at y words p k →
      (stamp_at y words p k ≡ suc (finished y words)) × IsLanded y.form job (finished y words) p
      × (phase_written y.form job p (finished y words) ≤ next_phase y.form (root y words))
  new_next p k is less =
      let x = stamp_at y words p k - 1 in
      let e : stamp_at y words p k ≡ suc x = omega arith in
      let from = shown.stored_from x p k is e in
      let begun = under_way y.form job p x (root y words) from.2 in
      let upto = shown.reached_finished x begun from.0 in
      let same : x ≡ finished y words = omega arith in (
        omega (arith, e, same),
        subst (λ (n : ℕ). IsLanded y.form job n p) same from.1,
        subst (λ (n : ℕ). phase_written y.form job p n ≤ next_phase y.form (root y words)) same
            from.2,
      )

  pub shows_machine : ShowsMachine job y words (finished y words)
  shows_machine = record {
    low = shown.root_low;
    high = shown.root_high;
    full = shown.full_root;
    reached = stands.lawful.reached;
    now = holds_now;
    before = holds_before;
    next = new_next;
  }
