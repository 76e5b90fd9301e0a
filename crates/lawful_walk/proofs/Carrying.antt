-- A block of the passes that write: a processor's data and its next counter are carried out, where
-- all its writes win.
use Rattle.std.proofs.Common.{◌≡◌, ℕ, suc, ◌-◌, ◌*◌, ◌<◌, ◌≤◌, ◌==◌, false, List, sym, subst}
use Rattle.std.proofs.Common.{inl, inr, arith}
use Rattle.std.proofs.lemmas.Bool.{cond_both, eqb-true, eqb-false}
use Rattle.pram_job.specs.Job.{JobData}
use Rattle.pram_machine.specs.Machine.{counter_place}
use Rattle.pram_step.proofs.Past.{counter_write, data_write, each_write, asks_fit}
use Rattle.pram_step.specs.History.{Asks, Wins, part_after}
use Rattle.pram_words.specs.Phases.{step_at}
use Rattle.pram_words.specs.Words.{LayoutData, places_of}
use Rattle.pram_words.specs.declared.layout.Form.TheVariants.{Compact}
use Rattle.walk_memory.proofs.Boards.{same_cells, same_procs}
use Rattle.walkx.specs.Scripts.{Script}
use Rattle.walkx.specs.Tasks.{writes_place, carries}
use Rattle.walkx.specs.Walk.{Then}
use Rattle.walk_memory.specs.Blocks.{IsBoard}
use Rattle.walkx.specs.declared.operation.Op.{Op}
use Rattle.lawful_walk.specs.Lands.{Lands, phase_written}
use Rattle.lawful_walk.specs.Board.{IsLate, Carried, Stands}
use Rattle.lawful_walk.proofs.Scripts.{Aim, Safe}
use Rattle.lawful_walk.proofs.Sees.{Sees, Lasts, so}
use Rattle.lawful_walk.proofs.Winners.{compact_lands, lands_compact}
use Rattle.lawful_walk.proofs.Writing.{writes_safe, late_later}
use Rattle.lawful_walk.specs.Writes.{Floor}

module _ (job : JobData) (y : LayoutData)
    (w q : ℕ) (aim : Aim) (x i place value next : ℕ) (some : 1 ≤ q) (most : q ≤ 3 * job.steps)
    (step : step_at q ≡ suc x) (compact : y.form ≡ Compact)
    (phase : (p : ℕ) → q ≡ phase_written y.form job p x) (proc : i < y.procs)
    (here : i < job.procs)
    (wins : (p v : ℕ) → Asks job x p i v → Wins job x p i) (P : List ℕ → Type 0)
    (lasts : Lasts job y P) (floor : (words : List ℕ) → P words → Floor job y q x words)
    (parts : (words : List ℕ) → P words → (place ≡ part_after job x i 0)
    × (value ≡ part_after job x i 1) × (next ≡ part_after job x i 2)) where
  -- in the compact form each write gets a word
  lands : (p v : ℕ) → Asks job x p i v → Lands y.form job x p i v
  lands p v asks = compact_lands y.form job x p i v compact asks

  asked_of : (p v : ℕ) → Lands y.form job x p i v → Asks job x p i v
  asked_of p v lands = lands_compact y.form job x p i v compact lands

  ask_next : (words : List ℕ) → P words → Asks job x (counter_place job i) i next
  ask_next words k = subst (λ (v : ℕ). Asks job x (counter_place job i) i v)
      (sym (parts words k).2) (counter_write job x i here)

  ask_data : (words : List ℕ) → Stands job y words → P words → (place == 0) ≡ false →
      Asks job x (place - 1) i value
  ask_data words stands k e =
      let f = eqb-false place 0 e in
      let h = parts words k in
      let g = h.0 in
      subst (λ (v : ℕ). Asks job x (place - 1) i v) (sym h.1)
      (data_write job x i (place - 1) stands.limits here (omega arith)).0

  place_in : (words : List ℕ) (p v : ℕ) → Stands job y words → Asks job x p i v → p < places_of y
  place_in words p v stands asks =
      let is_board : IsBoard job y =
      record { limits = stands.limits; layout = stands.sizes; is = stands.layout } in
      let a = (asks_fit job x p i v stands.limits asks).0 in
      let b = same_cells job y is_board in
      let c = same_procs job y is_board in omega arith

  -- the counter alone
  all_next : (words : List ℕ) → P words → place ≡ 0 →
      IsLate y x (counter_place job i) words → Carried job y x words i
  all_next words k none late p v lands = elim (each_write job x p i v (asked_of p v lands)) [
    | inl h ↦ subst (λ (p : ℕ). IsLate y x p words) (sym h.0) late
    | inr h ↦ absurd (let g = (parts words k).0 in let e = h.0 in omega arith)
  ]

  all_both : (words : List ℕ) → P words → IsLate y x (place - 1) words →
      IsLate y x (counter_place job i) words → Carried job y x words i
  all_both words k first late p v lands = elim (each_write job x p i v (asked_of p v lands)) [
    | inl h ↦ subst (λ (p : ℕ). IsLate y x p words) (sym h.0) late
    | inr h ↦ subst (λ (p : ℕ). IsLate y x p words) (let g = (parts words k).0 in
        let e = h.0 in omega arith) first
  ]

  Data : List ℕ → Type 0
  Data words = P words × IsLate y x (place - 1) words

  data_lasts : (place == 0) ≡ false → Lasts job y Data
  unfolding Data
  data_lasts e words later a b up h = (
    lasts words later a b up h.0,
    late_later y x (place - 1) words later
        (place_in words (place - 1) value a (ask_data words a h.0 e)) up h.1,
  )

  Known : List ℕ → Type 0
  Known words = P words × Stands job y words

  pub carries_safe : (after : Script Then) (history : List (Op × ℕ)) →
      Sees job y history P →
      ((longer : List (Op × ℕ)) → Sees job y longer (λ words. P words × Carried job y x words i) →
      Safe job y w q aim after longer) →
      Safe job y w q aim (carries job y (suc x) i place value next after) history
  unfolding Data Known
  carries_safe after history sees on =
      cond_both (place == 0) (writes_place y (suc x) (counter_place job i) next after)
      (writes_place y (suc x) (place - 1) value
      (writes_place y (suc x) (counter_place job i) next after))
      (λ (s : Script Then). Safe job y w q aim s history) (λ e.
      writes_safe job y w q aim x (counter_place job i) i next proc some most step
      (phase (counter_place job i)) P lasts floor
      (λ words k. (lands _ _ (ask_next words k), wins _ _ (ask_next words k))) after history sees
      (λ longer more.
      on longer (so job y longer (λ words. P words × IsLate y x (counter_place job i) words)
      (λ words. P words × Carried job y x words i)
      (λ words stands h. (h.0, all_next words h.0 (eqb-true place 0 e) h.1)) more)))
      (λ e. writes_safe job y w q aim x (place - 1) i value proc some most step
      (phase (place - 1)) Known
      (λ words later a b up h. (lasts words later a b up h.0, b)) (λ words h. floor words h.0)
      (λ words h. let a = ask_data words h.1 h.0 e in
      (lands _ _ a, wins _ _ a)) (writes_place y (suc x) (counter_place job i) next after) history
      (so job y history P Known (λ words stands k. (k, stands)) sees) (λ longer more.
      writes_safe job y w q aim x (counter_place job i) i next proc some most step
      (phase (counter_place job i)) Data
      (data_lasts e) (λ words h. floor words h.0)
      (λ words h. (lands _ _ (ask_next words h.0), wins _ _ (ask_next words h.0))) after longer
      (so job y longer (λ words. Known words × IsLate y x (place - 1) words) Data
      (λ words stands h. (h.0.0, h.1)) more) (λ longest all.
      on longest (so job y longest (λ words. Data words × IsLate y x (counter_place job i) words)
      (λ words. P words × Carried job y x words i)
      (λ words stands h. (h.0.0, all_both words h.0.0 h.0.1 h.1)) all))))
