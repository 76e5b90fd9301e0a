-- The task of rule priority that carries requests out: a cell is written by the processor whose
-- claim is the greatest.
use Rattle.std.proofs.Common.{◌≡◌, ◌≢◌, ℕ, zero, suc, ◌+◌, ◌-◌, ◌*◌, ◌<◌, ◌≤◌, ◌==◌, nat_lt}
use Rattle.std.proofs.Common.{if◌then◌else◌, false, List, ◌∷◌, IsTrue, refl, sym, ap, subst, ◌∙◌}
use Rattle.std.proofs.Common.{inl, inr, arith}
use Rattle.std.proofs.lemmas.Bool.{cond_both, cases_lt, eqb-true, eqb-false, ltb-true, ltb-false}
use Rattle.pram_job.specs.Job.{JobData}
use Rattle.pram_job.specs.declared.instr.Rule.TheVariants.{Priority}
use Rattle.pram_machine.specs.Machine.{counter_place}
use Rattle.pram_step.proofs.Past.{counter_write, each_write}
use Rattle.pram_step.specs.History.{Asks, Wins, part_after}
use Rattle.pram_words.proofs.NextPhases.{next_step}
use Rattle.pram_words.specs.Phases.{next_phase, step_at}
use Rattle.pram_words.specs.Stamps.{stamp_of, payload_of, stamped_word}
use Rattle.pram_words.specs.Words.{LayoutData, IsWord, number_of}
use Rattle.pram_words.specs.declared.layout.Form.{Form}
use Rattle.pram_words.specs.declared.layout.Form.TheVariants.{Compact}
use Rattle.pram_words.specs.declared.words.Word.TheVariants.{Claim}
use Rattle.walk_memory.proofs.Boards.{same_cells}
use Rattle.walkx.specs.Scripts.{Script, asks}
use Rattle.walkx.specs.Tasks.{carries, claim_of, priority_apply_task}
use Rattle.walkx.specs.Walk.{Then}
use Rattle.walk_memory.specs.Blocks.{IsBoard}
use Rattle.walkx.specs.declared.operation.Op.{Op}
use Rattle.walkx.specs.declared.operation.Op.TheVariants.{Load}
use Rattle.lawful_walk.specs.Lands.{phase_written, phase_claimed}
use Rattle.lawful_walk.proofs.Winners.{compact_lands, counts_first, lands_compact, wins_lands}
use Rattle.lawful_walk.proofs.Winners.{wins_least}
use Rattle.lawful_walk.specs.Board.{held, root, finished, IsLate, Carried, CarriedWon}
use Rattle.lawful_walk.specs.Board.{Stands}
use Rattle.lawful_walk.proofs.Agreed.{claimant}
use Rattle.lawful_walk.proofs.Applying.{cell_written, data_asked, proc_job, carried_safe}
use Rattle.lawful_walk.proofs.Facts.{facts}
use Rattle.lawful_walk.proofs.Growths.{root_up}
use Rattle.lawful_walk.proofs.Hearing.{hears_all}
use Rattle.lawful_walk.proofs.Known.{safe_known, floor_lasts, StaleSafe, EndSafe, stale_end}
use Rattle.lawful_walk.proofs.Scripts.{Aim, Safe, load_safe}
use Rattle.lawful_walk.proofs.Sees.{Sees, so, heard, later}
use Rattle.lawful_walk.proofs.Values.{claim_low}
use Rattle.lawful_walk.proofs.Writing.{writes_safe}
use Rattle.lawful_walk.specs.Moments.{Moment}
use Rattle.lawful_walk.specs.Writes.{Floor}

-- a claim that was heard tells whether the processor wins
record Judged (job : JobData) (x i p found : ℕ) : Type 0 where
  won : payload_of found ≡ claim_of job i → Wins job x p i
  lost : payload_of found ≢ claim_of job i → Wins job x p i → ⊥

module _ (job : JobData) (y : LayoutData)
    (w q : ℕ) (aim : Aim) (x i : ℕ) (some : 1 ≤ q) (most : q ≤ 3 * job.steps)
    (step : step_at q ≡ suc x) (board : IsBoard job y) (proc : i < y.procs)
    (compact : y.form ≡ Compact)
    (rule : job.rule ≡ Priority) (has : IsTrue y.claims) (phase : 3 * x + 3 ≡ q)
    (written : (p : ℕ) → q ≡ phase_written y.form job p x) where
  won : (words : List ℕ) → Carried job y x words i → CarriedWon job y x words i
  won words carried p v lands wins = carried p v lands

  -- the processor's data place is a cell that it doesn't win: the counter alone is carried out
  counts_alone : (words : List ℕ) →
      job.rule ≡ Priority → (Wins job x (part_after job x i 0 - 1) i → ⊥) →
      IsLate y x (counter_place job i) words → CarriedWon job y x words i
  counts_alone words rule lost late p v lands wins = elim (each_write job x p i v
      (lands_compact y.form job x p i v compact lands)) [
        | inl e ↦ subst (λ (p : ℕ). IsLate y x p words) (sym e.0) late
        | inr e ↦ absurd (let g = e.0 in
            let same : p ≡ part_after job x i 0 - 1 = omega arith in
            lost (subst (λ (p : ℕ). Wins job x p i) same wins))
      ]

  -- the claims of the step are made
  claimed_root : (words : List ℕ) → Floor job y q x words →
      phase_claimed y.form x ≤ root y words
  claimed_root words floor =
      let low = floor.root in
      subst (λ (f : Form). phase_claimed f x ≤ root y words) (sym compact)
      (let next = subst (λ (f : Form). q ≤ next_phase f (root y words)) compact low in omega arith)

  judged : (p v found : ℕ) (words : List ℕ) →
      p < job.cells → Asks job x p i v → stamp_of found ≤ suc x →
      Moment job y (Load (number_of y (Claim p))) found (Floor job y q x) words →
      Judged job x i p found
  judged p v found words cell asked high m =
      let is : IsWord y (Claim p) = (has, let c = same_cells job y board in omega arith) in
      let b = facts job y m.words m.stands in
      let low = claimed_root m.words m.earlier in
      let here : found ≡ held y m.words (Claim p) = m.heard in
      let top : (j u : ℕ) → Asks job x p j u → stamped_word (suc x) (claim_of job j)
      ≤ held y m.words (Claim p) = λ j u a. b.claims_high x p j u is low a in
      let mine = top i v asked in
      let proc_of = proc_job job y w q aim x i some most step board proc compact in
      let few = board.limits.procs.1 in
      let stamp : stamp_of (held y m.words (Claim p)) ≡ suc x = omega arith in
      record {
        won = λ e. counts_first job x p i job.rule (λ j u a. let t = top j u a in omega arith);
        lost = λ n wins.
            let c = claimant y.form job (finished y m.words)
            (root y m.words) x p (held y m.words (Claim p)) (m.stands.lawful.claimed p is) stamp in
            let is_his = c.is in
            let first = wins_least job x p i c.writer c.value rule wins c.asks in n (omega arith);
      }

  late_claim : (p found : ℕ) (words : List ℕ) → p < job.cells →
      Stands job y words → suc x < stamp_of found →
      Moment job y (Load (number_of y (Claim p))) found (Floor job y q x) words →
      Floor job y q x words × (q ≤ root y words)
  late_claim p found words cell stands late m = (
    floor_lasts job y q x m.words words m.stands stands m.since m.earlier,
    stale_by (stamp_of found) refl late,
  )
    where
      stale_by : (s : ℕ) → stamp_of found ≡ s → suc x < s → q ≤ root y words
      stale_by zero e h = absurd (omega arith)
      stale_by (suc s) e h =
          let is : IsWord y (Claim p) = (has, let c = same_cells job y board in omega arith) in
          let low =
          ((facts job y m.words m.stands).claim_from s p is (sym (ap stamp_of m.heard) ∙ e)).2 in
          let first = claim_low y.form s in
          let begun = next_step y.form (root y m.words) s (omega arith) in
          let up = root_up job y m.words words m.stands m.since in
          omega arith

  wins_if : ((p v : ℕ) → Asks job x p i v → p < job.cells → Wins job x p i) → (p v : ℕ) →
      Asks job x p i v → Wins job x p i
  wins_if each p v asked = elim (cases_lt p job.cells) [
    | inl cell ↦ each p v asked cell
    | inr more ↦ wins_lands y.form job x p i v board.limits more
        (compact_lands y.form job x p i v compact asked)
  ]

  whole_safe : ((p v : ℕ) → Asks job x p i v → p < job.cells → Wins job x p i) →
      (after : Script Then) →
      EndSafe job y w q aim x (λ words. CarriedWon job y x words i) after →
      (history : List (Op × ℕ)) → Sees job y history (Floor job y q x) →
      Safe job y w q aim (carries job y (suc x) i (part_after job x i 0)
      (part_after job x i 1) (part_after job x i 2) after) history
  whole_safe each after done history sees =
      carried_safe job y w q aim x i some most step board proc compact written (wins_if each) after
      (Floor job y q x) (floor_lasts job y q x) (λ words f. f) history sees (λ longer more.
      done longer (so job y longer (λ words. Floor job y q x words × Carried job y x words i)
      (λ words. Floor job y q x words × (root y words < q → CarriedWon job y x words i))
      (λ words stands h. (h.0, λ live. won words h.1)) more))

  counter_safe : (Wins job x (part_after job x i 0 - 1) i → ⊥) →
      (after : Script Then) → EndSafe job y w q aim x (λ words. CarriedWon job y x words i) after →
      (history : List (Op × ℕ)) → Sees job y history (Floor job y q x) →
      Safe job y w q aim
      (carries job y (suc x) i 0 (part_after job x i 1) (part_after job x i 2) after) history
  counter_safe lost after done history sees =
      let asked = counter_write job x i (proc_job job y w q aim x i some most step board
      proc compact) in
      let p = counter_place job i in
      let v = part_after job x i 2 in
      let lands = compact_lands y.form job x p i v compact asked in
      writes_safe job y w q aim x p i v proc some most step (written p)
      (Floor job y q x) (floor_lasts job y q x) (λ words f. f)
      (λ words f. (lands, wins_lands y.form job x p i v board.limits (omega arith) lands))
      after history sees (λ longer more. done longer
      (so job y longer (λ words. Floor job y q x words × IsLate y x (counter_place job i) words)
      (λ words. Floor job y q x words × (root y words < q → CarriedWon job y x words i))
      (λ words stands h. (h.0, λ live. counts_alone words rule lost h.1)) more))

  cell_win : (part_after job x i 0 == 0) ≡ false → Wins job x (part_after job x i 0 - 1) i →
      (p v : ℕ) → Asks job x p i v → p < job.cells → Wins job x p i
  cell_win e wins p v asked cell =
      let f = eqb-false (part_after job x i 0) 0 e in
      let is = cell_written job x p i v asked cell in
      let same : part_after job x i 0 - 1 ≡ p = omega arith in
      subst (λ (p : ℕ). Wins job x p i) same wins

  heard_safe : (found : ℕ) → (part_after job x i 0 == 0) ≡ false →
      part_after job x i 0 - 1 < job.cells → (after : Script Then) →
      EndSafe job y w q aim x (λ words. CarriedWon job y x words i) after →
      (history : List (Op × ℕ)) →
      Sees job y history (Moment job y (Load (number_of y (Claim (part_after job x i 0 - 1)))) found
      (Floor job y q x)) → Sees job y history (Floor job y q x) →
      Safe job y w q aim (if nat_lt (suc x) (stamp_of found) then after else carries job y
      (suc x) i (if payload_of found == claim_of job i then part_after job x i 0 else 0)
      (part_after job x i 1) (part_after job x i 2) after) history
  heard_safe found some_data cell after done history moment sees =
      let p = part_after job x i 0 - 1 in
      let stale : StaleSafe job y w q aim x after =
      stale_end job y w q aim x (λ words. CarriedWon job y x words i) after done in
      let script = λ (place : ℕ).
      carries job y (suc x) i place (part_after job x i 1) (part_after job x i 2) after in
      cond_both (nat_lt (suc x) (stamp_of found)) after
      (script (if payload_of found == claim_of job i then part_after job x i 0 else 0))
      (λ (s : Script Then). Safe job y w q aim s history)
      (λ e. stale history (so job y history (Moment job y (Load (number_of y (Claim p))) found
      (Floor job y q x)) (λ words. Floor job y q x words × (q ≤ root y words)) (λ words stands m.
      late_claim p found words cell stands (ltb-true (suc x) (stamp_of found) e) m) moment))
      (λ e.
      safe_known job y w q aim
      (script (if payload_of found == claim_of job i then part_after job x i 0 else 0))
      history (Judged job x i p found)
      (so job y history (Moment job y (Load (number_of y (Claim p))) found (Floor job y q x))
      (λ words. Judged job x i p found) (λ words stands m. judged p (part_after job x i 1)
      found words cell (data_asked job y w q aim x i some most step board proc compact some_data)
      (let l = ltb-false (suc x) (stamp_of found) e in omega arith) m) moment) (λ judge.
      cond_both (payload_of found == claim_of job i)
      (part_after job x i 0) 0 (λ (place : ℕ). Safe job y w q aim (script place) history)
      (λ g. whole_safe (cell_win some_data
      (judge.won (eqb-true (payload_of found) (claim_of job i) g))) after done history sees)
      (λ g. counter_safe (judge.lost (eqb-false (payload_of found) (claim_of job i) g))
      after done history sees)))

  pub priority_apply_safe : (after : Script Then) →
      EndSafe job y w q aim x (λ words. CarriedWon job y x words i) after →
      (history : List (Op × ℕ)) →
      Sees job y history (Floor job y q x) →
      Safe job y w q aim (priority_apply_task job y (suc x) i after) history
  unfolding priority_apply_task
  priority_apply_safe after done history sees =
      let all = λ (place value next : ℕ). carries job y (suc x) i place value next after in
      let claimed = λ (place value next : ℕ). asks (Load (number_of y (Claim (place - 1))))
      (λ found. if nat_lt (suc x) (stamp_of found) then after else carries job y
      (suc x) i (if payload_of found == claim_of job i then place else 0) value next after) in
      let a = part_after job x i 0 in
      let b = part_after job x i 1 in
      let c = part_after job x i 2 in
      hears_all job y w q aim x i some most step board proc compact (omega arith) after
      (λ place value next. if place == 0 then all place value next else (if nat_lt
      (place - 1) job.cells then claimed place value next else all place value next)) history
      (stale_end job y w q aim x (λ words. CarriedWon job y x words i) after done) sees
      (λ longer more.
      cond_both (a == 0) (all a b c) (if nat_lt (a - 1) job.cells then claimed a b c else all a b c)
      (λ (s : Script Then). Safe job y w q aim s longer)
      (λ e. whole_safe (λ p v asked cell. absurd (let is = cell_written job x p i v asked cell in
      let none = eqb-true (part_after job x i 0) 0 e in omega arith)) after done longer more)
      (λ e. cond_both (nat_lt (a - 1) job.cells)
      (claimed a b c) (all a b c) (λ (s : Script Then). Safe job y w q aim s longer)
      (λ l. load_safe job y w q aim (number_of y (Claim (a - 1)))
      (λ found. if nat_lt (suc x) (stamp_of found) then after else carries job y
      (suc x) i (if payload_of found == claim_of job i then a else 0) b c after) longer (λ found ok.
      heard_safe found e (ltb-true (part_after job x i 0 - 1) job.cells l) after done
      ((Load (number_of y (Claim (a - 1))), found) ∷ longer)
      (heard job y longer (Floor job y q x) (Load (number_of y (Claim (a - 1)))) found more)
      (later job y longer (Floor job y q x)
      (Load (number_of y (Claim (a - 1)))) found (floor_lasts job y q x) more)))
      (λ l. whole_safe (λ p v asked cell. absurd (let is = cell_written job x p i v asked cell in
      let more = ltb-false (part_after job x i 0 - 1) job.cells l in
      omega arith)) after done longer more)))
