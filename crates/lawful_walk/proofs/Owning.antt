-- A processor's own places in the wide form, which both passes read: what is then known of the
-- processor is true, or the phase is over.
use Rattle.std.proofs.Common.{◌≡◌, ℕ, zero, suc, ◌+◌, ◌*◌, ◌<◌, ◌≤◌, ◌==◌, nat_le, nat_lt}
use Rattle.std.proofs.Common.{true, false, List, [], ◌∷◌, ◌++◌, map, append_assoc, append-nil, refl}
use Rattle.std.proofs.Common.{sym, ap, subst, inl, inr, lit<, arith, if◌then◌else◌}
use Rattle.std.specs.List.{AllByRecursion}
use Rattle.std.proofs.lemmas.Bool.{cond_both, cases_Bool, eqb-true, leb-true, ltb-true}
use Rattle.pram_job.specs.Job.{JobData}
use Rattle.pram_words.specs.declared.layout.Form.{Form}
use Rattle.pram_words.specs.declared.layout.Form.TheVariants.{Wide}
use Rattle.pram_words.specs.declared.words.Word.TheVariants.{Stored}
use Rattle.pram_words.specs.Phases.{step_at}
use Rattle.pram_words.specs.Stamps.{stamp_of}
use Rattle.pram_words.specs.Words.{LayoutData, IsWord, number_of, places_of}
use Rattle.pram_words.proofs.NextPhases.{next_step}
use Rattle.walk_memory.specs.declared.memo.Memo.{Memo}
use Rattle.walkx.specs.declared.operation.Op.{Op}
use Rattle.walkx.specs.declared.operation.Op.TheVariants.{Load}
use Rattle.walk_memory.specs.Memory.{IsTrueMemo}
use Rattle.walkx.specs.Passes.{hears_before, hears_words, is_beyond, knows, loads_memo, own_places}
use Rattle.walkx.specs.Passes.{word_before}
use Rattle.walk_memory.specs.Learned.{loaded_memo}
use Rattle.walkx.specs.Scripts.{Script}
use Rattle.walkx.specs.Tasks.{is_late}
use Rattle.walkx.specs.Walk.{Then}
use Rattle.walk_memory.specs.Blocks.{IsBoard}
use Rattle.walk_memory.proofs.Boards.{same_cells, same_procs}
use Rattle.lawful_walk.specs.Board.{root, stamp_at, IsLate, Stands}
use Rattle.lawful_walk.specs.Lands.{settled}
use Rattle.lawful_walk.specs.Moments.{Moment}
use Rattle.lawful_walk.specs.Writes.{Floor}
use Rattle.lawful_walk.proofs.Facts.{facts}
use Rattle.lawful_walk.proofs.Growths.{root_up}
use Rattle.lawful_walk.proofs.Heard.{heard_settled}
use Rattle.lawful_walk.proofs.Known.{floor_lasts, safe_known, StaleSafe}
use Rattle.lawful_walk.proofs.LoadedMemos.{loaded_true}
use Rattle.lawful_walk.proofs.Moments.{onward, stamps_rise}
use Rattle.lawful_walk.proofs.Newest.{IsOwn, own_is}
use Rattle.lawful_walk.proofs.Scripts.{Aim, Safe, both_safe}
use Rattle.lawful_walk.proofs.Sees.{Sees, so}
use Rattle.lawful_walk.proofs.Values.{phase_low}

module _ (job : JobData) (y : LayoutData) (w q : ℕ) (aim : Aim) (g x i : ℕ) (some : 1 ≤ q)
    (most : q ≤ 3 * job.steps) (step : step_at q ≡ suc x) (board : IsBoard job y)
    (proc : i < y.procs) (wide : y.form ≡ Wide g) where
  pub in_job : i < job.procs
  in_job = let c = same_procs job y board in omega arith

  unfoldable pub Both : ℕ → ℕ → ℕ → List ℕ → Type 0
  Both p a b = Moment job y (Load (number_of y (Stored p 1))) b
      (Moment job y (Load (number_of y (Stored p 0))) a (Floor job y q x))

  pub both_floor : (p a b : ℕ) (words : List ℕ) → Stands job y words → Both p a b words →
      Floor job y q x words
  unfolding Both
  both_floor p a b words stands m =
      let first = m.earlier in
      floor_lasts job y q x first.words words first.stands stands
      (onward y first.words m.words words first.since m.since) first.earlier

  -- what was heard of the place is late, and so it is
  pub both_late : (p a b : ℕ) (words : List ℕ) → p < places_of y → Both p a b words →
      is_late (suc x) a b ≡ true → IsLate y x p words
  unfolding Both
  both_late p a b words place m late =
      let first = m.earlier in
      let up = onward y first.words m.words words first.since m.since in
      let one : stamp_at y first.words p 0 ≤ stamp_at y words p 0 =
      stamps_rise y first.words words p 0 (place, lit< tt) up in
      let two : stamp_at y m.words p 1 ≤ stamp_at y words p 1 =
      stamps_rise y m.words words p 1 (place, lit< tt) m.since in
      let is_one : stamp_of a ≡ stamp_at y first.words p 0 = ap stamp_of first.heard in
      let is_two : stamp_of b ≡ stamp_at y m.words p 1 = ap stamp_of m.heard in
      elim (cases_Bool (nat_le (suc x) (stamp_of a))) [
        | inl h ↦ (let l = leb-true (suc x) (stamp_of a) h in inl (omega arith))
        | inr h ↦ (let l : nat_le (suc x) (stamp_of b) ≡ true = rw h at late in
            let k = leb-true (suc x) (stamp_of b) l in inr (omega arith))
      ]

  -- a word of a later step: the phase is over
  beyond_word : (p k s : ℕ) (words now : List ℕ) → IsWord y (Stored p k) → Stands job y words →
      root y words ≤ root y now → stamp_at y words p k ≡ s → suc x < s → q ≤ root y now
  beyond_word p k zero words now is stands up e more = absurd (omega arith)
  beyond_word p k (suc s) words now is stands up e more =
      let from = ((facts job y words stands).stored_from s p k is e).2 in
      let first = phase_low y.form job p s in
      let low = next_step y.form (root y words) s (omega (arith, from, first)) in
      omega (arith, low, up, more, step)

  beyond_stale : (p a b : ℕ) (words : List ℕ) → p < places_of y → Stands job y words →
      Both p a b words → is_beyond (suc x) a b ≡ true → q ≤ root y words
  unfolding Both
  beyond_stale p a b words place stands m late =
      let first = m.earlier in
      let up = onward y first.words m.words words first.since m.since in
      elim (cases_Bool (nat_lt (suc x) (stamp_of a))) [
        | inl h ↦ beyond_word p 0 (stamp_of a) first.words words (place, lit< tt) first.stands
            (root_up job y first.words words first.stands up) (sym (ap stamp_of first.heard))
            (ltb-true (suc x) (stamp_of a) h)
        | inr h ↦ (let l : nat_lt (suc x) (stamp_of b) ≡ true = rw h at late in
            beyond_word p 1 (stamp_of b) m.words words (place, lit< tt) m.stands
            (root_up job y m.words words m.stands m.since) (sym (ap stamp_of m.heard))
            (ltb-true (suc x) (stamp_of b) l))
      ]

  -- else its settled word was heard
  abbrev pub Word : ℕ → ℕ
  Word p = settled (Wide g) job x p

  both_word : (p a b : ℕ) (words : List ℕ) → p < places_of y → 3 * x + 1 ≤ q →
      Both p a b words → is_beyond (suc x) a b ≡ false → word_before (suc x) a b ≡ Word p
  unfolding Both
  both_word p a b words place begun m early =
      let first = m.earlier in
      let floor = first.earlier in
      let low = next_step y.form (root y first.words) x
      (let f = floor.root in omega (arith, f, begun)) in
      subst (λ (form : Form). word_before (suc x) a b ≡ settled form job x p) wide
      (heard_settled job y x p a b first.words m.words first.stands m.stands first.since place
      floor.reached low first.heard m.heard early)

  -- one place of its own is heard
  module _ (begun : 3 * x + 1 ≤ q) (late : Script Then)
      (stale : StaleSafe job y w q aim x late) where
    own_heard : (p : ℕ) → IsOwn job i p → (next : ℕ → Script Then) (history : List (Op × ℕ)) →
        Sees job y history (Floor job y q x) →
        ((longer : List (Op × ℕ)) → Sees job y longer (Floor job y q x) →
        Safe job y w q aim (next (Word p)) longer) →
        Safe job y w q aim (hears_before y (suc x) p late next) history
    unfolding Both
    own_heard p mine next history sees on =
        let below = (own_is job i p in_job mine).below in
        let place : p < places_of y = (let c = same_procs job y board in
        let b = same_cells job y board in omega (arith, below, b, c)) in
        both_safe job y w q aim p
        (λ a b. if is_beyond (suc x) a b then late else next (word_before (suc x) a b)) history
        (Floor job y q x) sees (λ a b longer moment.
        cond_both (is_beyond (suc x) a b) late (next (word_before (suc x) a b))
        (λ (s : Script Then). Safe job y w q aim s longer)
        (λ over. stale longer (so job y longer (Both p a b)
        (λ words. Floor job y q x words × (q ≤ root y words)) (λ words stands m.
        (both_floor p a b words stands m, beyond_stale p a b words place stands m over)) moment))
        (λ early. safe_known job y w q aim (next (word_before (suc x) a b)) longer
        (word_before (suc x) a b ≡ Word p)
        (so job y longer (Both p a b) (λ words. word_before (suc x) a b ≡ Word p)
        (λ words stands m. both_word p a b words place begun m early) moment)
        (λ is. subst (λ (v : ℕ). Safe job y w q aim (next v) longer) (sym is)
        (on longer (so job y longer (Both p a b) (Floor job y q x)
        (λ words stands m. both_floor p a b words stands m) moment)))))

    -- those of several
    words_heard : (ps words : List ℕ) → AllByRecursion (IsOwn job i) ps →
        (next : List ℕ → Script Then) (history : List (Op × ℕ)) →
        Sees job y history (Floor job y q x) →
        ((longer : List (Op × ℕ)) → Sees job y longer (Floor job y q x) →
        Safe job y w q aim (next (words ++ map Word ps)) longer) →
        Safe job y w q aim (hears_words y (suc x) ps words late next) history
    words_heard [] words mine next history sees on =
        subst (λ (ws : List ℕ). Safe job y w q aim (next ws) history) (append-nil words)
        (on history sees)
    words_heard (p ∷ ps) words mine next history sees on =
        own_heard p mine.0
        (λ word. hears_words y (suc x) ps (words ++ word ∷ []) late next) history sees
        (λ longer more. words_heard ps (words ++ Word p ∷ []) mine.1 next longer more
        (λ longest known. subst (λ (ws : List ℕ). Safe job y w q aim (next ws) longest)
        (sym (append_assoc words (Word p ∷ []) (map Word ps))) (on longest known)))

    own_mine : AllByRecursion (IsOwn job i) (own_places job i)
    own_mine = (
      inr refl,
      (
        inl (0, lit< tt, refl),
        (
          inl (1, lit< tt, refl),
          (inl (2, lit< tt, refl), (inl (3, lit< tt, refl), tt)),
        ),
      ),
    )

    -- what is known of the processor before the step: remembered, or loaded
    pub loads_safe : (next : Memo → Script Then) (history : List (Op × ℕ)) →
        Sees job y history (Floor job y q x) →
        ((known : Memo) → IsTrueMemo job i known → known.step ≡ x → (longer : List (Op × ℕ)) →
        Sees job y longer (Floor job y q x) → Safe job y w q aim (next known) longer) →
        Safe job y w q aim (loads_memo job y (suc x) i late next) history
    loads_safe next history sees on =
        words_heard (own_places job i) [] own_mine (λ words. next (loaded_memo job (suc x) i words))
        history sees
        (λ longer more. on (loaded_memo job (suc x) i (map Word (own_places job i)))
        (loaded_true g job x i board.limits in_job (omega (arith, most, step))) (omega arith)
        longer more)

    pub knows_safe : (memo : Memo) → IsTrueMemo job i memo → (next : Memo → Script Then)
        (history : List (Op × ℕ)) → Sees job y history (Floor job y q x) →
        ((known : Memo) → IsTrueMemo job i known → known.step ≡ x → (longer : List (Op × ℕ)) →
        Sees job y longer (Floor job y q x) → Safe job y w q aim (next known) longer) →
        Safe job y w q aim (knows job y (suc x) i memo late next) history
    knows_safe memo is_true next history sees on =
        cond_both (suc memo.step == suc x) (next memo) (loads_memo job y (suc x) i late next)
        (λ (s : Script Then). Safe job y w q aim s history)
        (λ e. let at = eqb-true (suc memo.step) (suc x) e in
        on memo is_true (omega (arith, at)) history sees)
        (λ e. loads_safe next history sees on)
