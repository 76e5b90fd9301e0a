-- The floor of a phase, from the begin that a known worker has heard.
use Rattle.std.proofs.Common.{◌≡◌, ℕ, suc, ◌+◌, ◌*◌, ◌%◌, ◌≤◌, ◌==◌, IsTrue, List, []}
use Rattle.std.proofs.Common.{◌∷◌, ◌++◌, inl, inr, lit<, arith}
use Rattle.std.proofs.lemmas.Bool.{cond_both, cases_lt, eqb-false}
use Rattle.pram_job.specs.Job.{JobData}
use Rattle.pram_step.proofs.LawFixed.{reached_down}
use Rattle.pram_words.specs.Phases.{step_at, has_phase, phase_before}
use Rattle.pram_words.specs.Words.{LayoutData, number_of}
use Rattle.pram_words.specs.declared.words.Word.TheVariants.{Conflict, Node}
use Rattle.pram_words.proofs.NextPhases.{before_least, before_parts, next_rises}
use Rattle.walkx.specs.declared.operation.Op.{Op}
use Rattle.walkx.specs.declared.operation.Op.TheVariants.{Load}
use Rattle.walkx.specs.Doing as doing
use Rattle.walkx.specs.Walk.{phase_begun}
use Rattle.lawful_walk.specs.Board.{Grows, conflict, finished, root, Stands}
use Rattle.lawful_walk.specs.Moments.{Moment}
use Rattle.lawful_walk.specs.Writes.{Floor}
use Rattle.lawful_walk.proofs.Facts.{facts}
use Rattle.lawful_walk.proofs.Sees.{Sees, always, heard, so}

module _ (job : JobData) (y : LayoutData) (q x : ℕ) (some : 1 ≤ q) (step : step_at q ≡ suc x)
    (is_phase : IsTrue (has_phase y.form q)) where
  -- what the root was heard as
  r : ℕ
  r = phase_before y.form q

  root_rises : (words later : List ℕ) → Stands job y words → Grows y words later →
      root y words ≤ root y later
  root_rises words later stands up =
      up (Node 1) (lit< tt, let l = stands.sizes.leaves in omega arith)

  low_root : Sees job y ((Load (number_of y (Node 1)), r) ∷ []) (λ words. r ≤ root y words)
  low_root = so job y ((Load (number_of y (Node 1)), r) ∷ [])
      (Moment job y (Load (number_of y (Node 1))) r (λ words. Unit {0}))
      (λ words. r ≤ root y words)
      (λ words stands m. let up = root_rises m.words words m.stands m.since in
      let is : r ≡ root y m.words = m.heard in omega arith)
      (heard job y [] (λ words. Unit {0}) (Load (number_of y (Node 1))) r
      (always job y [] (λ words. Unit {0}) (λ words stands. tt)))

  floor_of : (words : List ℕ) → r ≤ root y words → (t : ℕ) → x ≤ t →
      Stands job y words → t ≤ finished y words → Floor job y q x words
  unfolding r
  floor_of words low t h stands f = record {
    root = (let n = next_rises y.form (phase_before y.form q) (root y words) low in
        let m = before_least y.form q some in omega arith);
    reached = reached_down job x (finished y words) (omega arith) stands.lawful.reached;
    is_phase = is_phase;
  }

  -- not after a last pass: the root says it
  inside : (words : List ℕ) → Stands job y words → (r % 3 ≡ 0 → ⊥) → r ≤ root y words →
      Floor job y q x words
  unfolding r
  inside words stands other low =
      let parts = before_parts y.form q x some step is_phase in
      let h : 3 * x + 1 ≤ root y words = (elim (cases_lt (3 * x) (phase_before y.form q)) [
        | inl c ↦ omega arith
        | inr c ↦ absurd (other (omega (arith, c, parts.0)))
      ]) in
      floor_of words low x (omega arith) stands ((facts job y words stands).root_finished x h)

  -- after a last pass: word 0 was heard as 0 after it
  finished_before : (words : List ℕ) → Stands job y words →
      Moment job y (Load (number_of y Conflict)) 0 (λ was. r ≤ root y was) words →
      Floor job y q x words
  unfolding r
  finished_before words stands m =
      let facts_then = facts job y m.words m.stands in
      let none : 0 ≡ conflict y m.words = m.heard in
      let low = m.earlier in
      let up = root_rises m.words words m.stands m.since in
      let parts = before_parts y.form q x some step is_phase in
      let from = parts.0 in
      let reached : x ≤ finished y m.words = elim (cases_lt (finished y m.words) x) [
        | inl c ↦ (let high = facts_then.root_high in
            let full = facts_then.full_root (omega arith) in absurd (omega arith))
        | inr c ↦ c
      ] in
      record {
        root = (let n = next_rises y.form (phase_before y.form q) (root y words) (omega arith) in
            let l = before_least y.form q some in omega arith);
        reached = reached_down job x (finished y m.words) reached m.stands.lawful.reached;
        is_phase = is_phase;
      }

  pub floor_seen : Sees job y (phase_begun y (doing.Turn q)) (Floor job y q x)
  unfolding r
  floor_seen = cond_both (phase_before y.form q % 3 == 0)
      ((Load (number_of y Conflict), 0) ∷ []) []
      (λ (es : List (Op × ℕ)).
      Sees job y (es ++ (Load (number_of y (Node 1)), phase_before y.form q) ∷ [])
      (Floor job y q x)) (λ e. so job y ((Load (number_of y Conflict), 0)
      ∷ (Load (number_of y (Node 1)), phase_before y.form q) ∷ [])
      (Moment job y (Load (number_of y Conflict)) 0
      (λ words. phase_before y.form q ≤ root y words))
      (Floor job y q x) finished_before
      (heard job y ((Load (number_of y (Node 1)), phase_before y.form q) ∷ [])
      (λ words. phase_before y.form q ≤ root y words) (Load (number_of y Conflict)) 0 low_root))
      (λ e. so job y ((Load (number_of y (Node 1)), phase_before y.form q) ∷ [])
      (λ words. phase_before y.form q ≤ root y words) (Floor job y q x)
      (λ words stands low. inside words stands
      (eqb-false (phase_before y.form q % 3) 0 e) low) low_root)
