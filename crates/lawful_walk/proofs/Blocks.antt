-- Blocks of the tasks, by the lemmas on words: a request word is heard, a place is read, a node is
-- marked. P is what is known; it lasts, and gives the floor.
use Rattle.std.proofs.Common.{◌≡◌, ◌≢◌, ℕ, zero, suc, ◌+◌, ◌-◌, ◌*◌, ◌<◌, ◌≤◌, ◌==◌, nat_le, true}
use Rattle.std.proofs.Common.{false}
use Rattle.std.proofs.Common.{List, ◌∷◌, slice_index, refl, sym, ap, subst, ◌∙◌, inl, inr, lit<}
use Rattle.std.proofs.Common.{arith}
use Rattle.std.proofs.lemmas.Bool.{cond_both, cases_Bool, eqb-true, eqb-false, leb-true}
use Rattle.pram_job.specs.Job.{JobData}
use Rattle.pram_step.specs.History.{part_after}
use Rattle.pram_step.specs.Runs.{state_after}
use Rattle.pram_words.proofs.NextPhases.{next_inside, next_step}
use Rattle.pram_words.specs.Phases.{kind_at, step_at}
use Rattle.pram_words.specs.Stamps.{stamp_of, payload_of, newer_payload}
use Rattle.pram_words.specs.Words.{LayoutData, IsWord, number_of, places_of}
use Rattle.pram_words.specs.declared.layout.Form.{Form}
use Rattle.pram_words.specs.declared.layout.Form.TheVariants.{Compact, Wide}
use Rattle.pram_words.specs.declared.words.Word.TheVariants.{Node, Asked, Stored}
use Rattle.walkx.specs.Scripts.{Script, asks}
use Rattle.walkx.specs.Tasks.{is_late, hears_part, reads_place}
use Rattle.walkx.specs.Walk.{Then, marks_node}
use Rattle.walkx.specs.declared.operation.Op.{Op}
use Rattle.walkx.specs.declared.operation.Op.TheVariants.{Load, Max, Swap}
use Rattle.lawful_walk.proofs.Moments.{onward}
use Rattle.lawful_walk.specs.Board.{held, root, stamp_at, Grows, LeafDone, Stands}
use Rattle.lawful_walk.specs.Lands.{landed_step}
use Rattle.lawful_walk.proofs.Effects.{writes_keep}
use Rattle.lawful_walk.proofs.Facts.{facts}
use Rattle.lawful_walk.proofs.Growths.{root_up, place_as_heard}
use Rattle.lawful_walk.proofs.Scripts.{Aim, Safe, load_safe, both_safe, goes_mark, goes_of}
use Rattle.lawful_walk.proofs.Sees.{Sees, Lasts, so, heard, later}
use Rattle.lawful_walk.proofs.Values.{compact_under_way}
use Rattle.lawful_walk.specs.Moments.{Moment}
use Rattle.lawful_walk.specs.Walks.{Goes}
use Rattle.lawful_walk.specs.Writes.{Floor, IsLeafMark, IsMark, MayJump}

module _ (job : JobData) (y : LayoutData) (w q : ℕ) (aim : Aim) (x : ℕ)
    (some : 1 ≤ q) (most : q ≤ 3 * job.steps)
    (step : step_at q ≡ suc x) (P : List ℕ → Type 0) (lasts : Lasts job y P)
    (floor : (words : List ℕ) → P words → Floor job y q x words) where
  -- the root of a phase that may come
  begun : (words : List ℕ) → Floor job y q x words → 3 * x + 1 ≤ q → 3 * x ≤ root y words
  begun words fl high =
      let r = fl.root in next_step y.form (root y words) x (omega (arith, r, high))

  -- ---- a request word, in the second or third pass

  Asks : ℕ → ℕ → ℕ → List ℕ → Type 0
  Asks i j found = Moment job y (Load (number_of y (Asked i j))) found P

  known : (i j found : ℕ) (words : List ℕ) → Stands job y words → Asks i j found words → P words
  unfolding Asks
  known i j found words stands m = lasts m.words words m.stands stands m.since m.earlier

  asked_part : y.form ≡ Compact → (i j found : ℕ) (words : List ℕ) → i < y.procs → j < 3 →
      Stands job y words →
      Asks i j found words → stamp_of found ≡ suc x → payload_of found ≡ part_after job x i j
  unfolding Asks
  asked_part compact i j found words proc part stands m e =
      let s : stamp_of (held y m.words (Asked i j)) ≡ suc x = sym (ap stamp_of m.heard) ∙ e in
      ap payload_of m.heard ∙ ((m.stands.lawful.asked compact i j proc part).part x s).1

  asked_stale : y.form ≡ Compact → (i j found : ℕ) (words : List ℕ) → i < y.procs → j < 3 →
      3 * x + 2 ≤ q →
      Stands job y words → Asks i j found words → stamp_of found ≢ suc x → q ≤ root y words
  unfolding Asks
  asked_stale compact i j found words proc part phase stands m other =
      let b = facts job y m.words m.stands in
      let fl = next_inside y.form (root y m.words) x
      (let r = (floor m.words m.earlier).root in omega arith) in
      let up = root_up job y m.words words m.stands m.since in
      let s : stamp_of found ≡ stamp_of (held y m.words (Asked i j)) = ap stamp_of m.heard in
      let more : x < stamp_of (held y m.words (Asked i j)) =
      b.requests_raised compact x i j proc part (omega arith) in
      stale_by (stamp_of (held y m.words (Asked i j))) refl (omega arith)
    where
      stale_by : (s : ℕ) → stamp_of (held y m.words (Asked i j)) ≡ s →
          suc (suc x) ≤ s → q ≤ root y words
      stale_by zero e h = absurd (omega arith)
      stale_by (suc t) e h =
          let b = facts job y m.words m.stands in
          let l = (b.asked_from compact t i j proc part e).1 in
          let up = root_up job y m.words words m.stands m.since in
          omega arith

  pub hears_safe : y.form ≡ Compact → (i j : ℕ) → i < y.procs → j < 3 → 3 * x + 2 ≤ q →
      (after : Script Then) (next : ℕ → Script Then) (history : List (Op × ℕ)) →
      Sees job y history P →
      ((longer : List (Op × ℕ)) → Sees job y longer (λ words. P words × (q ≤ root y words)) →
      Safe job y w q aim after longer) →
      ((v : ℕ) (longer : List (Op × ℕ)) → Sees job y longer
      (λ words. P words × (v ≡ part_after job x i j)) → Safe job y w q aim (next v) longer) →
      Safe job y w q aim (hears_part y (suc x) i j after next) history
  unfolding Asks
  hears_safe compact i j proc part phase after next history sees stale on =
      load_safe job y w q aim (number_of y (Asked i j)) _ history (λ found ok.
      let longer : List (Op × ℕ) = (Load (number_of y (Asked i j)), found) ∷ history in
      let moment : Sees job y longer (Asks i j found) =
      heard job y history P (Load (number_of y (Asked i j))) found sees in
      cond_both (stamp_of found == suc x)
      (next (payload_of found)) after (λ s. Safe job y w q aim s longer)
      (λ e. on (payload_of found) longer (so job y longer (Asks i j found)
      (λ words. P words × (payload_of found ≡ part_after job x i j)) (λ words stands m. (
        known i j found words stands m,
        asked_part compact i j found words proc part stands m (eqb-true (stamp_of found) (suc x) e),
      )) moment))
      (λ e. stale longer
      (so job y longer (Asks i j found) (λ words. P words × (q ≤ root y words)) (λ words stands m. (
        known i j found words stands m,
        asked_stale compact i j found words proc part phase stands m
            (eqb-false (stamp_of found) (suc x) e),
      )) moment)))

  -- ---- a place, in the first pass

  Both : ℕ → ℕ → ℕ → List ℕ → Type 0
  Both p a b = Moment job y (Load (number_of y (Stored p 1))) b
      (Moment job y (Load (number_of y (Stored p 0))) a P)

  still : (p a b : ℕ) (words : List ℕ) → Stands job y words → Both p a b words → P words
  unfolding Both
  still p a b words stands m =
      let first = m.earlier in
      lasts first.words words first.stands stands
      (onward y first.words m.words words first.since m.since) first.earlier

  stale_stamp : y.form ≡ Compact → (p k s : ℕ) (words now : List ℕ) →
      IsWord y (Stored p k) → Stands job y words → Stands job y now → Grows y words now →
      stamp_at y words p k ≡ s → x < s → q ≤ 3 * x + 1 → q ≤ root y now
  stale_stamp compact p k zero words now is stands after up e h phase = absurd (omega arith)
  stale_stamp compact p k (suc t) words now is stands after up e h phase =
      let l = ((facts job y words stands).stored_from t p k is e).2 in
      let r = root_up job y words now stands up in
      let low = compact_under_way y.form job p t (root y words) compact l in
      omega arith

  pub reads_safe : y.form ≡ Compact → (p : ℕ) → p < places_of y → q ≡ 3 * x + 1 →
      (after : Script Then) (next : ℕ → Script Then) (history : List (Op × ℕ)) →
      Sees job y history P →
      ((longer : List (Op × ℕ)) → Sees job y longer (λ words. P words × (q ≤ root y words)) →
      Safe job y w q aim after longer) →
      ((v : ℕ) (longer : List (Op × ℕ)) →
      Sees job y longer (λ words. P words × (v ≡ slice_index (state_after job x) p)) →
      Safe job y w q aim (next v) longer) →
      Safe job y w q aim (reads_place y (suc x) p after next) history
  unfolding Both
  reads_safe compact p place phase after next history sees stale on =
      both_safe job y w q aim p _ history P sees (λ a b longer moment.
      cond_both (is_late (suc x) a b) after
      (next (newer_payload a b)) (λ s. Safe job y w q aim s longer)
      (λ late. stale longer (so job y longer (Both p a b) (λ words. P words × (q ≤ root y words))
      (λ words stands m. (still p a b words stands m, late_root a b late words stands m)) moment))
      (λ early. on (newer_payload a b) longer (so job y longer (Both p a b) (λ words.
      P words × (newer_payload a b ≡ slice_index (state_after job x) p)) (λ words stands m. (
        still p a b words stands m,
        early_value a b early words stands m,
      )) moment)))
    where
      late_root : (a b : ℕ) → is_late (suc x) a b ≡ true → (words : List ℕ) → Stands job y words →
          Both p a b words → q ≤ root y words
      late_root a b late words stands m =
          let first = m.earlier in
          elim (cases_Bool (nat_le (suc x) (stamp_of a))) [
            | inl h ↦ (let l = leb-true (suc x) (stamp_of a) h in
                stale_stamp compact p 0 (stamp_of a) first.words words (place, lit< tt)
                first.stands stands (onward y first.words m.words words first.since m.since)
                (sym (ap stamp_of first.heard)) (omega arith) (omega arith))
            | inr h ↦ (let r : nat_le (suc x) (stamp_of b) ≡ true = rw h at late in
                let l = leb-true (suc x) (stamp_of b) r in
                stale_stamp compact p 1 (stamp_of b) m.words words (place, lit< tt) m.stands
                stands m.since (sym (ap stamp_of m.heard)) (omega arith) (omega arith))
          ]

      early_value : (a b : ℕ) → is_late (suc x) a b ≡ false →
          (words : List ℕ) → Stands job y words → Both p a b words →
          newer_payload a b ≡ slice_index (state_after job x) p
      early_value a b early words stands m =
          let first = m.earlier in
          let fl = floor first.words first.earlier in
          let low = begun first.words fl (omega arith) in
          subst (λ (f : Form). newer_payload a b
          ≡ slice_index (state_after job (landed_step f job x p)) p) compact
          (place_as_heard job y x p a b first.words m.words words first.stands m.stands stands
          first.since m.since place fl.reached low first.heard m.heard early).value

  -- ---- a leaf is marked

  pub marks_safe : (n m : ℕ) → y.leaves ≤ n → n < 2 * y.leaves → IsLeafMark job y q n m →
      (n ≡ 1 → m ≤ 3 * x + 3) → (history : List (Op × ℕ)) →
      Sees job y history (λ words. P words × (aim.given words → root y words < q →
      LeafDone job y x (kind_at q) n words)) → Safe job y w q aim (marks_node y n m q) history
  marks_safe n m low high mark top history sees = (
    so job y history (λ words. P words × (aim.given words → root y words < q →
        LeafDone job y x (kind_at q) n words))
        (λ words. aim.given words → Goes job y w q (Max (number_of y (Node n)) m) words)
        (λ words stands h given. goes_mark job y w q n m words
        ((writes_keep job y words q x stands some most step (floor words h.0)).leaf n m low high
        mark top (h.1 given))) sees,
    λ found ok. tt,
  )

  -- the root is raised over the end of the step, and what follows is safe whatever came of it
  pub jumps_safe : (g m : ℕ) → y.form ≡ Wide g → q ≡ 3 * x + 1 → IsMark y q m →
      m ≤ 3 * job.steps → (next : Script Then) (history : List (Op × ℕ)) → Sees job y history
      (λ words. P words × (aim.given words → MayJump job y words q x m)) →
      ((longer : List (Op × ℕ)) → Sees job y longer P → Safe job y w q aim next longer) →
      Safe job y w q aim (asks (Swap (number_of y (Node 1)) (q - 1) m) (λ found. next)) history
  jumps_safe g m wide phase mark range next history sees on = (
    so job y history (λ words. P words × (aim.given words → MayJump job y words q x m))
        (λ words. aim.given words → Goes job y w q (Swap (number_of y (Node 1)) (q - 1) m) words)
        (λ words stands h given. subst
        (λ (old : ℕ). Goes job y w q (Swap (number_of y (Node 1)) old m) words)
        (let e : 3 * x ≡ q - 1 = omega (arith, phase) in e)
        (goes_of job y w q (Swap (number_of y (Node 1)) (3 * x) m) words
        ((writes_keep job y words q x stands some most step (floor words h.0)).jump g m wide phase
        mark range (h.1 given)))) sees,
    λ found ok. on ((Swap (number_of y (Node 1)) (q - 1) m, found) ∷ history)
        (later job y history P (Swap (number_of y (Node 1)) (q - 1) m) found lasts
        (so job y history (λ words. P words × (aim.given words → MayJump job y words q x m)) P
        (λ words stands h. h.0) sees)),
  )
