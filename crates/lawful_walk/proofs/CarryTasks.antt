-- Carry in the wide form under the rule common: a processor's store is written, and compared.
use Rattle.std.proofs.Common.{◌≡◌, ◌≢◌, ℕ, zero, suc, ◌+◌, ◌*◌, ◌^◌, ◌<◌, ◌≤◌, ◌||◌}
use Rattle.std.proofs.Common.{nat_le, true, false, List, ◌∷◌, length}
use Rattle.std.proofs.Common.{if◌then◌else◌, sym, ap, subst, ◌∙◌, inl, inr}
use Rattle.std.proofs.Common.{get_or-set_same, lit<, arith}
use Rattle.std.proofs.lemmas.Bool.{cond_both, cases_eq, cases_Bool}
use Rattle.std.proofs.lemmas.Bool.{leb-true, or_parts}
use Rattle.pram_job.specs.Job.{JobData}
use Rattle.pram_job.specs.declared.instr.Rule.TheVariants.{Common, Priority}
use Rattle.pram_step.specs.History.{Asks}
use Rattle.pram_step.specs.Runs.{AgreesAfter}
use Rattle.pram_step.proofs.Past.{asks_fit}
use Rattle.pram_words.specs.declared.layout.Form.TheVariants.{Wide}
use Rattle.pram_words.specs.declared.words.Word.TheVariants.{Stored}
use Rattle.pram_words.specs.Phases.{step_at}
use Rattle.pram_words.specs.Stamps.{stamp_of, payload_of, stamped_word, first_is_older, older}
use Rattle.pram_words.specs.Stamps.{older_word}
use Rattle.pram_words.specs.Words.{LayoutData, IsWord, number_of}
use Rattle.pram_words.proofs.Numbering.{numbering}
use Rattle.pram_words.proofs.NextPhases.{next_inside}
use Rattle.walkx.specs.declared.operation.Op.{Op}
use Rattle.walkx.specs.declared.operation.Op.TheVariants.{Swap}
use Rattle.walkx.specs.Operations.{words_after}
use Rattle.walkx.specs.Scripts.{Script, asks}
use Rattle.walkx.specs.Tasks.{differs, is_late, reports}
use Rattle.walkx.specs.Walk.{Then}
use Rattle.walk_memory.specs.Blocks.{IsBoard}
use Rattle.walk_memory.specs.declared.memo.Memo.{Memo}
use Rattle.walk_memory.specs.Memory.{IsTrueMemo}
use Rattle.walk_memory.specs.Learned.{carried}
use Rattle.walkx.specs.Passes.{carry_task, reports_other, writes_compared}
use Rattle.lawful_walk.specs.Board.{held, root, conflict, stamp_at, finished, IsLate, HoldsNew}
use Rattle.lawful_walk.specs.Board.{Grows, CarriedCell, Stands}
use Rattle.lawful_walk.specs.Board.{Stays}
use Rattle.lawful_walk.proofs.Winners.{wins_all, cell_lands}
use Rattle.lawful_walk.proofs.Frames.{swap_same}
use Rattle.lawful_walk.proofs.Moments.{onward, stamps_rise}
use Rattle.lawful_walk.proofs.Raising.{alive, stamps_most}
use Rattle.lawful_walk.specs.Moments.{Moment}
use Rattle.lawful_walk.specs.Walks.{Goes}
use Rattle.lawful_walk.specs.Writes.{Floor, PlaceAsHeard}
use Rattle.lawful_walk.proofs.Effects.{writes_keep}
use Rattle.lawful_walk.proofs.Facts.{facts}
use Rattle.lawful_walk.proofs.Growths.{changed, growth_shows, place_as_heard}
use Rattle.lawful_walk.proofs.Known.{floor_lasts, safe_known, EndSafe, LearnedSafe}
use Rattle.lawful_walk.proofs.Owning.{Both, both_floor, both_late, in_job}
use Rattle.lawful_walk.proofs.Scripts.{Aim, Safe, both_safe, goes_of}
use Rattle.lawful_walk.proofs.Sees.{Sees, Lasts, so, heard, later}
use Rattle.lawful_walk.proofs.Stores.{stores_safe}
use Rattle.lawful_walk.proofs.TrueMemos.{carried_true}
use Rattle.lawful_walk.proofs.Writing.{late_later, older_two, set_late}
use Rattle.lawful_walk.proofs.Agreed.{agreed_word, differs_is, differs_not}
use Rattle.lawful_walk.proofs.CarryParts.{carried_by, cell_in, none_carried, one_store, written}
use Rattle.lawful_walk.proofs.Hearing.{reports_end}

module _ (job : JobData) (y : LayoutData) (w q : ℕ) (aim : Aim) (g x i : ℕ) (some : 1 ≤ q)
    (most : q ≤ 3 * job.steps) (step : step_at q ≡ suc x) (board : IsBoard job y)
    (proc : i < y.procs) (wide : y.form ≡ Wide g) (phase : 3 * x + 3 ≡ q) where
  stays_by : (c v : ℕ) (words : List ℕ) → c < job.cells → Asks job x c i v →
      HoldsNew y words c (suc x) v → Stays job y x words i
  stays_by c v words cell asked holds = inr (λ d u other also.
      let same = one_store job x i c v d u cell also asked other in
      subst (λ (u : ℕ). HoldsNew y words d (suc x) u) same.1
      (subst (λ (d : ℕ). HoldsNew y words d (suc x) v) same.0 holds))

  -- ---- while the phase is not over, a word of the step stays

  word_stays : (c k : ℕ) (was now : List ℕ) → c < job.cells → k < 2 → Stands job y now →
      Grows y was now → finished y now ≡ x → x < stamp_at y was c k →
      (held y was (Stored c k) ≡ held y now (Stored c k)) × (stamp_at y was c k ≡ suc x)
  word_stays c zero was now cell two stands up gone late =
      let is : IsWord y (Stored c 0) = (cell_in job y board c cell, two) in
      let high = stamps_most job y now stands c 0 is in
      let rise = stamps_rise y was now c 0 is up in (
        elim (up (Stored c zero) is) [
          | inl e ↦ e
          | inr more ↦ absurd (let m = more.0 in omega arith)
        ],
        omega arith,
      )
  word_stays c (suc zero) was now cell two stands up gone late =
      let is : IsWord y (Stored c 1) = (cell_in job y board c cell, two) in
      let high = stamps_most job y now stands c 1 is in
      let rise = stamps_rise y was now c 1 is up in (
        elim (up (Stored c (suc zero)) is) [
          | inl e ↦ e
          | inr more ↦ absurd (let m = more.1 in omega arith)
        ],
        omega arith,
      )
  word_stays c (suc (suc k)) was now cell two stands up gone late = absurd (omega arith)

  -- a word of the step with the value, at a moment, while the phase is not over
  holds_from : (c k v : ℕ) (was now : List ℕ) → c < job.cells → k < 2 → Stands job y now →
      Grows y was now → finished y now ≡ x → x < stamp_at y was c k →
      (stamp_at y was c k ≡ suc x → payload_of (held y was (Stored c k)) ≡ v) →
      HoldsNew y now c (suc x) v
  holds_from c k v was now cell two stands up gone late value =
      let s = word_stays c k was now cell two stands up gone late in (
        k,
        two,
        sym (ap stamp_of s.0) ∙ s.1,
        sym (ap payload_of s.0) ∙ value s.1,
      )

  -- ---- common: the cell is written, and compared

  Late : ℕ → List ℕ → Type 0
  Late c words = Floor job y q x words × IsLate y x c words

  late_lasts : (c : ℕ) → c < job.cells → Lasts job y (Late c)
  unfolding Late
  late_lasts c cell words later a b up h = (
    floor_lasts job y q x words later a b up h.0,
    late_later y x c words later (cell_in job y board c cell) up h.1,
  )

  Common_done : List ℕ → Type 0
  Common_done words = CarriedCell job y x words i × Stays job y x words i

  -- the step is against the rule, and the cell is written
  other_safe : (c v : ℕ) → c < job.cells → Asks job x c i v → (AgreesAfter job x → ⊥) →
      (after : Script Then) → EndSafe job y w q aim x Common_done after →
      (history : List (Op × ℕ)) → Sees job y history (Late c) →
      Safe job y w q aim (reports y (suc x) after) history
  unfolding Late Common_done
  other_safe c v cell asked not after done history sees =
      reports_end job y w q aim x some most step phase (Late c) (late_lasts c cell) (λ words h. h.0)
      not after history sees
      (λ longer more. done longer (so job y longer
      (λ words. Late c words × (root y words < q → conflict y words ≡ suc x))
      (λ words. Floor job y q x words × (root y words < q → Common_done words))
      (λ words stands h.
      (h.0.0, λ live. (carried_by job y x i c v words cell asked h.0.1, inl (h.1 live)))) more))

  -- the cell holds the value
  holds_safe : (c v : ℕ) → c < job.cells → Asks job x c i v → (after : Script Then) →
      EndSafe job y w q aim x Common_done after → (history : List (Op × ℕ)) →
      Sees job y history
      (λ words. Late c words × (root y words < q → HoldsNew y words c (suc x) v)) →
      Safe job y w q aim after history
  unfolding Late Common_done
  holds_safe c v cell asked after done history sees = done history (so job y history
      (λ words. Late c words × (root y words < q → HoldsNew y words c (suc x) v))
      (λ words. Floor job y q x words × (root y words < q → Common_done words))
      (λ words stands h. (
        h.0.0,
        λ live. (
          carried_by job y x i c v words cell asked h.0.1,
          stays_by c v words cell asked (h.1 live),
        ),
      )) sees)

  At : ℕ → ℕ → ℕ → List ℕ → Type 0
  At c a b = Both job y w q aim g x i some most step board proc wide c a b

  at_late : (c a b : ℕ) (words : List ℕ) → c < job.cells → Stands job y words → At c a b words →
      is_late (suc x) a b ≡ true → Late c words
  unfolding At Late
  at_late c a b words cell stands m late = (
    both_floor job y w q aim g x i some most step board proc wide c a b words stands m,
    both_late job y w q aim g x i some most step board proc wide c a b words
        (cell_in job y board c cell) m late,
  )

  at_gone : (c a b : ℕ) (words : List ℕ) → Stands job y words → At c a b words →
      root y words < q → finished y words ≡ x
  unfolding At
  at_gone c a b words stands m live = alive job y words q x stands some most step
      (both_floor job y w q aim g x i some most step board proc wide c a b words stands m) live

  -- a word of the step with another value: the step doesn't agree
  disagrees : (c v a b : ℕ) (words : List ℕ) → job.rule ≡ Common → c < job.cells →
      Asks job x c i v → At c a b words →
      (differs (suc x) v a || differs (suc x) v b) ≡ true → AgreesAfter job x → ⊥
  unfolding At Both
  disagrees c v a b words rule cell asked m h agrees =
      let first = m.earlier in
      let place = cell_in job y board c cell in
      let wins = λ (j : ℕ).
      wins_all job x c j (λ e. absurd (let k : Common ≡ Priority = sym rule ∙ e in cc)) in
      elim (cases_Bool (differs (suc x) v a)) [
        | inl e ↦ (let d = differs_is (suc x) v a e in
            d.1 (ap payload_of first.heard ∙ agreed_word job x c i v y board agrees asked
            wins first.words 0 first.stands (place, lit< tt) (sym (ap stamp_of first.heard) ∙ d.0)))
        | inr e ↦ (let k : differs (suc x) v b ≡ true = rw e at h in
            let d = differs_is (suc x) v b k in
            d.1 (ap payload_of m.heard ∙ agreed_word job x c i v y board agrees
            asked wins m.words 1 m.stands (place, lit< tt) (sym (ap stamp_of m.heard) ∙ d.0)))
      ]

  -- written already, and neither word differs: the value stands
  heard_holds : (c v a b : ℕ) (words : List ℕ) → c < job.cells → Stands job y words →
      At c a b words → is_late (suc x) a b ≡ true →
      (differs (suc x) v a || differs (suc x) v b) ≡ false → root y words < q →
      HoldsNew y words c (suc x) v
  unfolding At Both
  heard_holds c v a b words cell stands m late h live =
      let first = m.earlier in
      let gone = at_gone c a b words stands m live in
      let neither = or_parts (differs (suc x) v a) (differs (suc x) v b) h in
      let up = onward y first.words m.words words first.since m.since in
      elim (cases_Bool (nat_le (suc x) (stamp_of a))) [
        | inl l ↦ (let k = leb-true (suc x) (stamp_of a) l in
            let e = ap stamp_of first.heard in
            holds_from c 0 v first.words words cell (lit< tt) stands up gone (omega arith)
            (λ s. sym (ap payload_of first.heard)
            ∙ differs_not (suc x) v a neither.0 (e ∙ s)))
        | inr l ↦ (let r : nat_le (suc x) (stamp_of b) ≡ true = rw l at late in
            let k = leb-true (suc x) (stamp_of b) r in
            let e = ap stamp_of m.heard in
            holds_from c 1 v m.words words cell (lit< tt) stands m.since gone (omega arith)
            (λ s. sym (ap payload_of m.heard)
            ∙ differs_not (suc x) v b neither.1 (e ∙ s)))
      ]

  -- ---- the swap

  -- where the older word as heard does not stand any more, a word of the step or later does
  older_changed : (c a b : ℕ) (words : List ℕ) → c < job.cells → Stands job y words →
      At c a b words → held y words (Stored c (older a b)) ≢ older_word a b →
      x < stamp_at y words c (older a b)
  unfolding At Both
  older_changed c a b words cell stands m =
      let first = m.earlier in
      let fl = first.earlier in
      let low : x ≤ finished y first.words =
      (let n = next_inside y.form (root y first.words) x (let f = fl.root in omega arith) in
      (facts job y first.words first.stands).root_finished x n) in
      let up = onward y first.words m.words words first.since m.since in
      let grown = (growth_shows job y first.words m.words first.stands m.stands first.since) in
      let high : x ≤ finished y m.words = (let r = grown.finished_rises in omega arith) in
      elim (cases_Bool (first_is_older a b)) [
        | inl e ↦ rw e (λ other. changed job y first.words words x c 0 first.stands stands up
            (cell_in job y board c cell, lit< tt) low (λ same. other (same ∙ sym first.heard)))
        | inr e ↦ rw e (λ other. changed job y m.words words x c 1 m.stands stands m.since
            (cell_in job y board c cell, lit< tt) high (λ same. other (same ∙ sym m.heard)))
      ]

  Swaps : ℕ → ℕ → ℕ → List ℕ → Type 0
  Swaps c a b words = Floor job y q x words × PlaceAsHeard job y x c a b words
      × (held y words (Stored c (older a b)) ≢ older_word a b → x < stamp_at y words c (older a b))

  swaps_at : (c a b : ℕ) (words : List ℕ) → c < job.cells → Stands job y words → At c a b words →
      is_late (suc x) a b ≡ false → Swaps c a b words
  unfolding At Both Swaps
  swaps_at c a b words cell stands m early =
      let first = m.earlier in
      let fl = first.earlier in
      let n = next_inside y.form (root y first.words) x (let f = fl.root in omega arith) in (
        both_floor job y w q aim g x i some most step board proc wide c a b words stands m,
        place_as_heard job y x c a b first.words m.words words first.stands m.stands stands
            first.since m.since (cell_in job y board c cell) fl.reached (omega arith) first.heard
            m.heard early,
        older_changed c a b words cell stands m,
      )

  swap : ℕ → ℕ → ℕ → ℕ → Op
  swap c v a b = Swap (number_of y (Stored c (older a b))) (older_word a b) (stamped_word (suc x) v)

  -- after a swap the cell is written
  swapped_late : (c v a b found : ℕ) (words : List ℕ) → c < job.cells → v < 2 ^ 32 →
      Stands job y words → Moment job y (swap c v a b) found (Swaps c a b) words → Late c words
  unfolding swap Swaps Late
  swapped_late c v a b found words cell small stands m =
      let place = cell_in job y board c cell in
      let k = older a b in
      let two = older_two a b in (
        floor_lasts job y q x m.words words m.stands stands
            (onward y m.words (words_after m.words (swap c v a b)) words m.grew m.since)
            m.earlier.0,
        late_later y x c (words_after m.words (swap c v a b)) words place m.since
            (elim (cases_eq (held y m.words (Stored c k)) (older_word a b)) [
              | inl same ↦ subst (λ (l : List ℕ). IsLate y x c l)
                  (sym (swap_same m.words (number_of y (Stored c k)) (older_word a b)
                  (stamped_word (suc x) v) same))
                  (set_late job y x c k (stamped_word (suc x) v) m.words place two m.stands
                  (omega arith))
              | inr other ↦ late_later y x c m.words
                  (words_after m.words (swap c v a b)) place m.grew (m.earlier.1.written other)
            ]),
      )

  -- and where what was found does not differ, the value stands
  swapped_holds : (c v a b found : ℕ) (words : List ℕ) → c < job.cells → v < 2 ^ 32 →
      Stands job y words → Moment job y (swap c v a b) found (Swaps c a b) words →
      differs (suc x) v found ≡ false → root y words < q → HoldsNew y words c (suc x) v
  unfolding swap Swaps
  swapped_holds c v a b found words cell small stands m same live =
      let k = older a b in
      let two = older_two a b in
      let word = stamped_word (suc x) v in
      let fl = floor_lasts job y q x m.words words m.stands stands
      (onward y m.words (words_after m.words (swap c v a b)) words m.grew m.since) m.earlier.0 in
      let gone = alive job y words q x stands some most step fl live in
      elim (cases_eq (held y m.words (Stored c k)) (older_word a b)) [
        | inl is ↦ (
            let below : number_of y (Stored c k) < length m.words =
            (let n = (numbering y m.stands.sizes).below (Stored c k)
            (cell_in job y board c cell, two) in
            let l = m.stands.admitted.len in omega arith) in
            let set : held y (words_after m.words (swap c v a b)) (Stored c k) ≡ word =
            subst (λ (l : List ℕ). held y l (Stored c k) ≡ word)
            (sym (swap_same m.words (number_of y (Stored c k)) (older_word a b) word is))
            (get_or-set_same m.words (number_of y (Stored c k)) word 0 below) in
            let stamp : stamp_at y (words_after m.words (swap c v a b)) c k ≡ suc x =
            ap stamp_of set ∙ omega arith in
            holds_from c k v (words_after m.words (swap c v a b)) words cell two stands m.since gone
            (omega arith) (λ s. ap payload_of set ∙ omega arith))
        | inr other ↦ (
            let late = m.earlier.2 other in
            let up = onward y m.words (words_after m.words (swap c v a b)) words m.grew m.since in
            holds_from c k v m.words words cell two stands up gone late
            (λ s. sym (ap payload_of m.heard)
            ∙ differs_not (suc x) v found same (ap stamp_of m.heard ∙ s)))
      ]

  -- what was found differs: the step doesn't agree
  found_disagrees : (c v a b found : ℕ) (words : List ℕ) → job.rule ≡ Common → c < job.cells →
      Asks job x c i v → Moment job y (swap c v a b) found (Swaps c a b) words →
      differs (suc x) v found ≡ true → AgreesAfter job x → ⊥
  unfolding swap Swaps
  found_disagrees c v a b found words rule cell asked m h agrees =
      let d = differs_is (suc x) v found h in
      let wins = λ (j : ℕ).
      wins_all job x c j (λ e. absurd (let k : Common ≡ Priority = sym rule ∙ e in cc)) in
      d.1 (ap payload_of m.heard ∙ agreed_word job x c i v y board agrees asked wins m.words
      (older a b) m.stands (cell_in job y board c cell, older_two a b)
      (sym (ap stamp_of m.heard) ∙ d.0))

  compared_safe : (c v : ℕ) → job.rule ≡ Common → c < job.cells → Asks job x c i v →
      (after : Script Then) → EndSafe job y w q aim x Common_done after →
      (history : List (Op × ℕ)) → Sees job y history (Floor job y q x) →
      Safe job y w q aim (writes_compared y (suc x) c v after) history
  unfolding At Both swap Late Swaps
  compared_safe c v rule cell asked after done history sees =
      let small = (asks_fit job x c i v board.limits asked).1 in
      let next = λ (a b : ℕ). if is_late (suc x) a b
      then reports_other y (suc x) (differs (suc x) v a || differs (suc x) v b) after
      else asks (swap c v a b) (λ found. reports_other y (suc x) (differs (suc x) v found) after) in
      both_safe job y w q aim c next history (Floor job y q x) sees (λ a b longer moment.
      cond_both (is_late (suc x) a b)
      (reports_other y (suc x) (differs (suc x) v a || differs (suc x) v b) after)
      (asks (swap c v a b) (λ found. reports_other y (suc x) (differs (suc x) v found) after))
      (λ (s : Script Then). Safe job y w q aim s longer)
      (λ late. heard_safe a b late longer moment)
      (λ early. swap_safe a b early small longer moment))
    where
      heard_safe : (a b : ℕ) → is_late (suc x) a b ≡ true → (longer : List (Op × ℕ)) →
          Sees job y longer (At c a b) →
          Safe job y w q aim
          (reports_other y (suc x) (differs (suc x) v a || differs (suc x) v b) after) longer
      heard_safe a b late longer moment =
          cond_both (differs (suc x) v a || differs (suc x) v b)
          (reports y (suc x) after) after (λ (s : Script Then). Safe job y w q aim s longer)
          (λ d. safe_known job y w q aim (reports y (suc x) after) longer (AgreesAfter job x → ⊥)
          (so job y longer (At c a b) (λ words. AgreesAfter job x → ⊥)
          (λ words stands m. disagrees c v a b words rule cell asked m d) moment)
          (λ not. other_safe c v cell asked not after done longer
          (so job y longer (At c a b) (Late c)
          (λ words stands m. at_late c a b words cell stands m late) moment)))
          (λ d. holds_safe c v cell asked after done longer (so job y longer (At c a b)
          (λ words. Late c words × (root y words < q → HoldsNew y words c (suc x) v))
          (λ words stands m. (
            at_late c a b words cell stands m late,
            λ live. heard_holds c v a b words cell stands m late d live,
          )) moment))

      found_safe : (a b found : ℕ) → v < 2 ^ 32 → (longest : List (Op × ℕ)) →
          Sees job y longest (Moment job y (swap c v a b) found (Swaps c a b)) →
          Safe job y w q aim (reports_other y (suc x) (differs (suc x) v found) after) longest
      found_safe a b found small longest moment =
          let At_swap = Moment job y (swap c v a b) found (Swaps c a b) in
          cond_both (differs (suc x) v found)
          (reports y (suc x) after) after (λ (s : Script Then). Safe job y w q aim s longest)
          (λ d. safe_known job y w q aim (reports y (suc x) after) longest (AgreesAfter job x → ⊥)
          (so job y longest At_swap (λ words. AgreesAfter job x → ⊥)
          (λ words stands m. found_disagrees c v a b found words rule cell asked m d) moment)
          (λ not. other_safe c v cell asked not after done longest
          (so job y longest At_swap (Late c)
          (λ words stands m. swapped_late c v a b found words cell small stands m) moment)))
          (λ d. holds_safe c v cell asked after done longest (so job y longest At_swap
          (λ words. Late c words × (root y words < q → HoldsNew y words c (suc x) v))
          (λ words stands m. (
            swapped_late c v a b found words cell small stands m,
            λ live. swapped_holds c v a b found words cell small stands m d live,
          )) moment))

      swap_safe : (a b : ℕ) → is_late (suc x) a b ≡ false → v < 2 ^ 32 →
          (longer : List (Op × ℕ)) → Sees job y longer (At c a b) →
          Safe job y w q aim (asks (swap c v a b)
          (λ found. reports_other y (suc x) (differs (suc x) v found) after)) longer
      swap_safe a b early small longer moment =
          let ready : Sees job y longer (Swaps c a b) = so job y longer (At c a b) (Swaps c a b)
          (λ words stands m. swaps_at c a b words cell stands m early) moment in
          let lands = cell_lands y.form job x c i v cell asked in
          let wins =
          wins_all job x c i (λ e. absurd (let k : Common ≡ Priority = sym rule ∙ e in cc)) in (
            so job y longer (Swaps c a b)
                (λ words. aim.given words → Goes job y w q (swap c v a b) words)
                (λ words stands h given. goes_of job y w q (swap c v a b) words
                ((writes_keep job y words q x stands some most step h.0).place c i v a b proc
                (written job y q g x wide phase c cell) lands wins h.1)) ready,
            λ found ok. found_safe a b found small ((swap c v a b, found) ∷ longer)
                (heard job y longer (Swaps c a b) (swap c v a b) found ready),
          )

  pub carry_task_safe : job.rule ≡ Common → (memo : Memo) → IsTrueMemo job i memo →
      (after : Memo → Script Then) → LearnedSafe job y w q aim x i
      (λ words. CarriedCell job y x words i × Stays job y x words i) after →
      (history : List (Op × ℕ)) → Sees job y history (Floor job y q x) →
      Safe job y w q aim (carry_task job y (suc x) i memo after) history
  unfolding carry_task Common_done
  carry_task_safe rule memo is_true after done history sees =
      let then_all = after (carried (suc x) memo) in
      let here = in_job job y w q aim g x i some most step board proc wide in
      stores_safe job y w q aim g x i some most step board proc wide (omega (arith, phase))
      Common_done (after memo) (done memo is_true)
      (λ none words. (
        none_carried job y w q aim g x i some most step board proc wide none words,
        inr (λ c v asked cell. absurd (none c v cell asked)),
      )) memo is_true
      (λ c v. writes_compared y (suc x) c v then_all) history sees (λ longer more c v cell asked.
      compared_safe c v rule cell asked then_all
      (done (carried (suc x) memo) (carried_true job i board.limits here (suc x) memo is_true))
      longer more)
