-- The blocks of the tasks, where what was heard is put in its place: a part of a request, the value
-- of a place, a report, a claim.
use Rattle.std.proofs.Common.{◌≡◌, ◌≢◌, ℕ, suc, ◌+◌, ◌*◌, ◌<◌, ◌≤◌, nat_lt, List, ◌∷◌, length}
use Rattle.std.proofs.Common.{slice_index, get_or-set_same, IsTrue, sym, ap, subst, ◌∙◌, inl, inr}
use Rattle.std.proofs.Common.{lit<, arith}
use Rattle.std.proofs.lemmas.Bool.{cond_both, cases_eq, ltb-true, ltb-false}
use Rattle.std.specs.Prelude.{slice_set}
use Rattle.pram_job.specs.Job.{JobData}
use Rattle.pram_step.specs.History.{Asks, part_after}
use Rattle.pram_step.specs.Runs.{AgreesAfter, state_after}
use Rattle.pram_words.proofs.Numbering.{numbering}
use Rattle.pram_words.specs.Phases.{step_at}
use Rattle.pram_words.specs.Stamps.{stamped_word}
use Rattle.pram_words.specs.Words.{LayoutData, number_of, places_of}
use Rattle.pram_words.specs.declared.layout.Form.{Form}
use Rattle.pram_words.specs.declared.layout.Form.TheVariants.{Compact}
use Rattle.pram_words.specs.declared.phases.Kind.TheVariants.{Verify}
use Rattle.pram_words.specs.declared.words.Word.TheVariants.{Conflict, Claim}
use Rattle.walk_memory.proofs.Boards.{same_cells}
use Rattle.walkx.specs.Operations.{words_after}
use Rattle.walkx.specs.Scripts.{Script, asks}
use Rattle.walkx.specs.Tasks.{hears_part, reads_place, reports, claims, claim_of}
use Rattle.walkx.specs.Walk.{Then}
use Rattle.walk_memory.specs.Blocks.{IsBoard}
use Rattle.walkx.specs.declared.operation.Op.{Op}
use Rattle.walkx.specs.declared.operation.Op.TheVariants.{Max, Swap}
use Rattle.lawful_walk.specs.Lands.{phase_claimed}
use Rattle.lawful_walk.proofs.Frames.{swap_same, swap_other}
use Rattle.lawful_walk.proofs.Moments.{onward}
use Rattle.lawful_walk.proofs.Raising.{kind_of, alive}
use Rattle.lawful_walk.specs.Board.{held, root, conflict, Stands}
use Rattle.lawful_walk.proofs.Blocks.{hears_safe, reads_safe}
use Rattle.lawful_walk.proofs.Effects.{writes_keep}
use Rattle.lawful_walk.proofs.Facts.{facts}
use Rattle.lawful_walk.proofs.Known.{safe_known, floor_lasts, StaleSafe, raises_safe}
use Rattle.lawful_walk.proofs.Scripts.{Aim, Safe, goes_of}
use Rattle.lawful_walk.specs.Walks.{Goes}
use Rattle.lawful_walk.proofs.Sees.{Sees, Lasts, so, heard}
use Rattle.lawful_walk.specs.Moments.{Moment}
use Rattle.lawful_walk.specs.Writes.{Floor}

module _ (job : JobData) (y : LayoutData)
    (w q : ℕ) (aim : Aim) (x i : ℕ) (some : 1 ≤ q) (most : q ≤ 3 * job.steps)
    (step : step_at q ≡ suc x) (board : IsBoard job y) (proc : i < y.procs)
    (compact : y.form ≡ Compact) where
  -- ---- one part of the request, or all three

  pub hears : (j : ℕ) → j < 3 → 3 * x + 2 ≤ q →
      (after : Script Then) (next : ℕ → Script Then) (history : List (Op × ℕ)) →
      StaleSafe job y w q aim x after →
      Sees job y history (Floor job y q x) →
      ((longer : List (Op × ℕ)) → Sees job y longer (Floor job y q x) →
      Safe job y w q aim (next (part_after job x i j)) longer) →
      Safe job y w q aim (hears_part y (suc x) i j after next) history
  hears j part phase after next history stale sees on =
      hears_safe job y w q aim x some most step (Floor job y q x) (floor_lasts job y q x)
      (λ words f. f) compact i j proc part phase after next history sees stale (λ v longer more.
      safe_known job y w q aim (next v) longer (v ≡ part_after job x i j)
      (so job y longer (λ words. Floor job y q x words × (v ≡ part_after job x i j))
      (λ words. v ≡ part_after job x i j) (λ words stands h. h.1) more) (λ e.
      subst (λ (v : ℕ). Safe job y w q aim (next v) longer) (sym e)
      (on longer (so job y longer (λ words. Floor job y q x words × (v ≡ part_after job x i j))
      (Floor job y q x) (λ words stands h. h.0) more))))

  pub hears_all : 3 * x + 2 ≤ q →
      (after : Script Then) (next : ℕ → ℕ → ℕ → Script Then) (history : List (Op × ℕ)) →
      StaleSafe job y w q aim x after →
      Sees job y history (Floor job y q x) →
      ((longer : List (Op × ℕ)) → Sees job y longer (Floor job y q x) → Safe job y w q aim
      (next (part_after job x i 0) (part_after job x i 1) (part_after job x i 2)) longer) →
      Safe job y w q aim (hears_part y (suc x) i 0 after
      (λ a. hears_part y (suc x) i 1 after (λ b. hears_part y (suc x) i 2 after (λ c. next a b c))))
      history
  hears_all phase after next history stale sees on =
      hears 0 (lit< tt) phase after
      (λ a. hears_part y (suc x) i 1 after (λ b. hears_part y (suc x) i 2 after (λ c. next a b c)))
      history stale sees (λ longer more.
      hears 1 (lit< tt) phase after
      (λ b. hears_part y (suc x) i 2 after (λ c. next (part_after job x i 0) b c)) longer stale more
      (λ longer more.
      hears 2 (lit< tt) phase after
      (λ c. next (part_after job x i 0) (part_after job x i 1) c) longer stale more on))

  -- ---- a place, in the first pass

  pub reads : (p : ℕ) → p < places_of y →
      q ≡ 3 * x + 1 → (after : Script Then) (next : ℕ → Script Then) (history : List (Op × ℕ)) →
      StaleSafe job y w q aim x after → Sees job y history (Floor job y q x) →
      ((longer : List (Op × ℕ)) → Sees job y longer (Floor job y q x) →
      Safe job y w q aim (next (slice_index (state_after job x) p)) longer) →
      Safe job y w q aim (reads_place y (suc x) p after next) history
  reads p place phase after next history stale sees on =
      reads_safe job y w q aim x some most step (Floor job y q x) (floor_lasts job y q x)
      (λ words f. f) compact p place phase after next history sees stale (λ v longer more.
      safe_known job y w q aim (next v) longer (v ≡ slice_index (state_after job x) p)
      (so job y longer (λ words. Floor job y q x words × (v ≡ slice_index (state_after job x) p))
      (λ words. v ≡ slice_index (state_after job x) p) (λ words stands h. h.1) more) (λ e.
      subst (λ (v : ℕ). Safe job y w q aim (next v) longer) (sym e) (on longer
      (so job y longer (λ words. Floor job y q x words × (v ≡ slice_index (state_after job x) p))
      (Floor job y q x) (λ words stands h. h.0) more))))

  -- ---- a cell is claimed

  pub claimed_lasts : (p : ℕ) → IsTrue y.claims → Lasts job y
      (λ words. p < job.cells → stamped_word (suc x) (claim_of job i) ≤ held y words (Claim p))
  claimed_lasts p claims words later a b up h cell =
      let up : held y words (Claim p) ≤ held y later (Claim p) =
      up (Claim p) (claims, let c = same_cells job y board in omega arith) in
      let l = h cell in omega arith

  pub claims_safe : (p v : ℕ) → IsTrue y.claims → 3 * x + 2 ≡ q → Asks job x p i v →
      (after : Script Then) (history : List (Op × ℕ)) → Sees job y history (Floor job y q x) →
      ((longer : List (Op × ℕ)) → Sees job y longer (λ words. Floor job y q x words
      × (p < job.cells → stamped_word (suc x) (claim_of job i) ≤ held y words (Claim p))) →
      Safe job y w q aim after longer) →
      Safe job y w q aim (claims job y (suc x) i p after) history
  claims_safe p v has phase asked after history sees on =
      cond_both (nat_lt p job.cells)
      (asks (Max (number_of y (Claim p)) (stamped_word (suc x) (claim_of job i))) (λ found. after))
      after (λ (s : Script Then). Safe job y w q aim s history) (λ e.
      let cell : p < y.cells = (let l = ltb-true p job.cells e in
      let c = same_cells job y board in omega arith) in
      raises_safe job y w q aim (Claim p) (stamped_word (suc x) (claim_of job i)) (Floor job y q x)
      (floor_lasts job y q x) (has, cell) (λ words later up. up (Claim p) (has, cell))
      (λ words stands f. (writes_keep job y words q x stands some most step f).claim p i v
      (has, cell) (subst (λ (f : Form). q ≡ phase_claimed f x) (sym compact) (sym phase)) asked)
      after history sees (λ longer more.
      on longer (so job y longer (λ words.
      Floor job y q x words × (stamped_word (suc x) (claim_of job i) ≤ held y words (Claim p)))
      (λ words. Floor job y q x words × (p < job.cells → stamped_word (suc x) (claim_of job i)
      ≤ held y words (Claim p))) (λ words stands h. (h.0, λ c. h.1)) more)))
      (λ e. on history (so job y history (Floor job y q x) (λ words. Floor job y q x words
      × (p < job.cells → stamped_word (suc x) (claim_of job i) ≤ held y words (Claim p)))
      (λ words stands f. (f, λ c. absurd (let l = ltb-false p job.cells e in omega arith))) sees))

-- a conflict is reported: it is named after the swap, if the phase is not over; what else is known
-- lasts
module _ (job : JobData) (y : LayoutData) (w q : ℕ) (aim : Aim) (x : ℕ) (some : 1 ≤ q)
    (most : q ≤ 3 * job.steps) (step : step_at q ≡ suc x) (phase : 3 * x + 3 ≡ q) where
  named_now : (words : List ℕ) → Stands job y words →
      conflict y (words_after words (Swap (number_of y Conflict) 0 (suc x))) ≢ 0
  named_now words stands = elim (cases_eq (conflict y words) 0) [
    | inl e ↦ (let below : number_of y Conflict < length words =
        (let n = (numbering y stands.sizes).below Conflict tt in
        let l = stands.admitted.len in omega arith) in
        let is : conflict y (slice_set words (number_of y Conflict) (suc x)) ≡ suc x =
        get_or-set_same words (number_of y Conflict) (suc x) 0 below in
        subst (λ (l : List ℕ). conflict y l ≢ 0)
        (sym (swap_same words (number_of y Conflict) 0 (suc x) e)) (λ none. absurd (omega arith)))
    | inr n ↦ subst (λ (l : List ℕ). conflict y l ≢ 0)
        (sym (swap_other words (number_of y Conflict) 0 (suc x) n)) n
  ]

  named_later : (words : List ℕ) → Stands job y words → Floor job y q x words →
      conflict y words ≢ 0 → root y words < q → conflict y words ≡ suc x
  named_later words stands floor named live =
      let gone = alive job y words q x stands some most step floor live in
      elim (facts job y words stands).conflict_next [
        | inl e ↦ absurd (named e)
        | inr e ↦ e ∙ ap suc gone
      ]

  pub reports_end : (P : List ℕ → Type 0) → Lasts job y P →
      ((words : List ℕ) → P words → Floor job y q x words) → (AgreesAfter job x → ⊥) →
      (after : Script Then) (history : List (Op × ℕ)) → Sees job y history P →
      ((longer : List (Op × ℕ)) → Sees job y longer
      (λ words. P words × (root y words < q → conflict y words ≡ suc x)) →
      Safe job y w q aim after longer) →
      Safe job y w q aim (reports y (suc x) after) history
  reports_end P lasts floor not after history sees on =
      let op = Swap (number_of y Conflict) 0 (suc x) in (
        so job y history P (λ words. aim.given words → Goes job y w q op words)
            (λ words stands h given. goes_of job y w q op words
            ((writes_keep job y words q x stands some most step (floor words h)).conflict
            (kind_of x q Verify phase) not)) sees,
        λ found ok. on ((op, found) ∷ history)
            (so job y ((op, found) ∷ history) (Moment job y op found P)
            (λ words. P words × (root y words < q → conflict y words ≡ suc x))
            (λ words stands m.
            let kept = lasts m.words words m.stands stands
            (onward y m.words (words_after m.words op) words m.grew m.since) m.earlier in
            let named = named_now m.words m.stands in
            let same : conflict y (words_after m.words op) ≡ conflict y words =
            m.since Conflict tt named in
            (kept, named_later words stands (floor words kept) (λ none. named (same ∙ none))))
            (heard job y history P op found sees)),
      )
