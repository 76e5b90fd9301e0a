-- The tasks that carry requests out or claim cells.
use Rattle.std.proofs.Common.{◌≡◌, ◌≢◌, ℕ, suc, ◌+◌, ◌-◌, ◌*◌, ◌<◌, ◌≤◌, ◌==◌, if◌then◌else◌, false}
use Rattle.std.proofs.Common.{List, IsTrue, refl, subst, inl, inr, lit<, arith}
use Rattle.std.proofs.lemmas.Bool.{cond_both, eqb-true, eqb-false}
use Rattle.pram_job.specs.Job.{JobData}
use Rattle.pram_job.specs.declared.instr.Rule.TheVariants.{Priority}
use Rattle.pram_step.proofs.Past.{data_write, each_write}
use Rattle.pram_step.specs.History.{Asks, Wins, part_after}
use Rattle.pram_words.specs.Phases.{step_at}
use Rattle.pram_words.specs.Stamps.{stamped_word}
use Rattle.pram_words.specs.Words.{LayoutData}
use Rattle.pram_words.specs.declared.layout.Form.TheVariants.{Compact}
use Rattle.pram_words.specs.declared.words.Word.TheVariants.{Claim}
use Rattle.walk_memory.proofs.Boards.{same_procs}
use Rattle.walkx.specs.Scripts.{Script}
use Rattle.walkx.specs.Tasks.{carries, claims, claim_of, apply_task, crew_apply_task, claim_task}
use Rattle.walkx.specs.Walk.{Then}
use Rattle.walk_memory.specs.Blocks.{IsBoard}
use Rattle.walkx.specs.declared.operation.Op.{Op}
use Rattle.lawful_walk.specs.Lands.{phase_written}
use Rattle.lawful_walk.proofs.Winners.{wins_all}
use Rattle.lawful_walk.specs.Board.{held, root, Claimed, Carried}
use Rattle.lawful_walk.proofs.Carrying.{carries_safe}
use Rattle.lawful_walk.proofs.Hearing.{hears, hears_all, claims_safe, claimed_lasts}
use Rattle.lawful_walk.proofs.Known.{floor_lasts, both_last, EndSafe, stale_end}
use Rattle.lawful_walk.proofs.Scripts.{Aim, Safe}
use Rattle.lawful_walk.proofs.Sees.{Sees, Lasts, so}
use Rattle.lawful_walk.specs.Writes.{Floor}

-- the cells that a processor writes: its data place, if that is one
pub cell_written : (job : JobData) (s c i v : ℕ) → Asks job s c i v →
    c < job.cells → part_after job s i 0 ≡ suc c
cell_written job s c i v asked cell = elim (each_write job s c i v asked) [
  | inl e ↦ absurd (let g = e.0 in omega arith)
  | inr e ↦ e.0
]

module _ (job : JobData) (y : LayoutData)
    (w q : ℕ) (aim : Aim) (x i : ℕ) (some : 1 ≤ q) (most : q ≤ 3 * job.steps)
    (step : step_at q ≡ suc x) (board : IsBoard job y) (proc : i < y.procs)
    (compact : y.form ≡ Compact) where
  pub proc_job : i < job.procs
  proc_job = let c = same_procs job y board in omega arith

  pub data_asked : (part_after job x i 0 == 0) ≡ false →
      Asks job x (part_after job x i 0 - 1) i (part_after job x i 1)
  data_asked e =
      let f = eqb-false (part_after job x i 0) 0 e in
      (data_write job x i (part_after job x i 0 - 1) board.limits proc_job (omega arith)).0

  -- ---- apply

  pub carried_safe : ((p : ℕ) → q ≡ phase_written y.form job p x) →
      ((p v : ℕ) → Asks job x p i v → Wins job x p i) →
      (after : Script Then) → (P : List ℕ → Type 0) →
      Lasts job y P → ((words : List ℕ) → P words → Floor job y q x words) →
      (history : List (Op × ℕ)) → Sees job y history P →
      ((longer : List (Op × ℕ)) → Sees job y longer (λ words. P words × Carried job y x words i) →
      Safe job y w q aim after longer) →
      Safe job y w q aim (carries job y (suc x) i (part_after job x i 0)
      (part_after job x i 1) (part_after job x i 2) after) history
  carried_safe phase wins after P lasts floor history sees on =
      carries_safe job y w q aim x i (part_after job x i 0)
      (part_after job x i 1) (part_after job x i 2) some most step compact phase proc proc_job
      wins P lasts floor (λ words p. (refl, refl, refl)) after history sees on

  pub apply_safe : job.rule ≢ Priority → ((p : ℕ) → q ≡ phase_written y.form job p x) →
      3 * x + 2 ≤ q → (after : Script Then) →
      EndSafe job y w q aim x (λ words. Carried job y x words i) after → (history : List (Op × ℕ)) →
      Sees job y history (Floor job y q x) →
      Safe job y w q aim (apply_task job y (suc x) i after) history
  unfolding apply_task
  apply_safe rule phase late after done history sees =
      hears_all job y w q aim x i some most step board proc compact late after
      (λ a b c. carries job y (suc x) i a b c after) history
      (stale_end job y w q aim x (λ words. Carried job y x words i) after done) sees (λ longer more.
      carried_safe phase (λ p v asked. wins_all job x p i rule) after
      (Floor job y q x) (floor_lasts job y q x) (λ words f. f) longer more (λ longest known.
      done longest (so job y longest (λ words. Floor job y q x words × Carried job y x words i)
      (λ words. Floor job y q x words × (root y words < q → Carried job y x words i))
      (λ words stands h. (h.0, λ live. h.1)) known)))

  -- ---- claims

  no_claim : (words : List ℕ) → part_after job x i 0 ≡ 0 → Claimed job y x words i
  no_claim words none c v asked cell =
      absurd (let e = cell_written job x c i v asked cell in omega arith)

  claimed_by : (words : List ℕ) → (part_after job x i 0 == 0) ≡ false →
      (part_after job x i 0 - 1 < job.cells →
      stamped_word (suc x) (claim_of job i) ≤ held y words (Claim (part_after job x i 0 - 1))) →
      Claimed job y x words i
  claimed_by words e claimed c v asked cell =
      let f = eqb-false (part_after job x i 0) 0 e in
      let is = cell_written job x c i v asked cell in
      let same : part_after job x i 0 - 1 ≡ c = omega arith in
      subst (λ (c : ℕ). stamped_word (suc x) (claim_of job i) ≤ held y words (Claim c))
      same (claimed (omega arith))

  pub claim_safe : IsTrue y.claims → 3 * x + 2 ≡ q →
      (after : Script Then) → EndSafe job y w q aim x (λ words. Claimed job y x words i) after →
      (history : List (Op × ℕ)) → Sees job y history (Floor job y q x) →
      Safe job y w q aim (claim_task job y (suc x) i after) history
  unfolding claim_task
  claim_safe has phase after done history sees =
      hears job y w q aim x i some most step board proc compact 0 (lit< tt) (omega arith) after
      (λ place. if place == 0 then after else claims job y (suc x) i (place - 1) after) history
      (stale_end job y w q aim x (λ words. Claimed job y x words i) after done) sees (λ longer more.
      cond_both (part_after job x i 0 == 0) after
      (claims job y (suc x) i (part_after job x i 0 - 1) after)
      (λ (s : Script Then). Safe job y w q aim s longer)
      (λ e. done longer (so job y longer (Floor job y q x)
      (λ words. Floor job y q x words × (root y words < q → Claimed job y x words i))
      (λ words stands f. (f, λ live. no_claim words (eqb-true (part_after job x i 0) 0 e))) more))
      (λ e. claims_safe job y w q aim x i some most step board proc compact
      (part_after job x i 0 - 1)
      (part_after job x i 1) has phase (data_asked e) after longer more (λ longest known.
      done longest
      (so job y longest (λ words. Floor job y q x words × (part_after job x i 0 - 1 < job.cells →
      stamped_word (suc x) (claim_of job i) ≤ held y words (Claim (part_after job x i 0 - 1))))
      (λ words. Floor job y q x words × (root y words < q → Claimed job y x words i))
      (λ words stands h. (h.0, λ live. claimed_by words e h.1)) known))))

  -- ---- crew's apply

  At : List ℕ → Type 0
  At words = Floor job y q x words × (part_after job x i 0 - 1 < job.cells →
      stamped_word (suc x) (claim_of job i) ≤ held y words (Claim (part_after job x i 0 - 1)))

  at_lasts : IsTrue y.claims → Lasts job y At
  unfolding At
  at_lasts has =
      both_last job y (Floor job y q x) (λ words. part_after job x i 0 - 1 < job.cells →
      stamped_word (suc x) (claim_of job i) ≤ held y words (Claim (part_after job x i 0 - 1)))
      (floor_lasts job y q x)
      (claimed_lasts job y w q aim x i some most step board proc compact
      (part_after job x i 0 - 1) has)

  pub crew_apply_safe : job.rule ≢ Priority →
      IsTrue y.claims → ((p : ℕ) → q ≡ phase_written y.form job p x) → 3 * x + 2 ≡ q →
      (after : Script Then) →
      EndSafe job y w q aim x (λ words. Carried job y x words i × Claimed job y x words i) after →
      (history : List (Op × ℕ)) → Sees job y history (Floor job y q x) →
      Safe job y w q aim (crew_apply_task job y (suc x) i after) history
  unfolding crew_apply_task At
  crew_apply_safe rule has written phase after done history sees =
      let carried = carries job y (suc x) i
      (part_after job x i 0) (part_after job x i 1) (part_after job x i 2) after in
      hears_all job y w q aim x i some most step board proc compact (omega arith) after
      (λ place value next. if place == 0 then carries job y (suc x) i place value next after
      else claims job y (suc x) i (place - 1) (carries job y (suc x) i place value next after))
      history
      (stale_end job y w q aim x (λ words. Carried job y x words i × Claimed job y x words i)
      after done) sees (λ longer more.
      cond_both (part_after job x i 0 == 0) carried
      (claims job y (suc x) i (part_after job x i 0 - 1) carried)
      (λ (s : Script Then). Safe job y w q aim s longer)
      (λ e. carried_safe written (λ p v asked. wins_all job x p i rule) after
      (Floor job y q x) (floor_lasts job y q x) (λ words f. f) longer more (λ longest known.
      done longest (so job y longest (λ words. Floor job y q x words × Carried job y x words i)
      (λ words. Floor job y q x words
      × (root y words < q → Carried job y x words i × Claimed job y x words i))
      (λ words stands h. (
        h.0,
        λ live. (h.1, no_claim words (eqb-true (part_after job x i 0) 0 e)),
      )) known)))
      (λ e. claims_safe job y w q aim x i some most step board proc compact
      (part_after job x i 0 - 1)
      (part_after job x i 1) has phase (data_asked e) carried longer more (λ longer more.
      carried_safe written (λ p v asked. wins_all job x p i rule) after At
      (at_lasts has) (λ words h. h.0) longer more (λ longest known.
      done longest (so job y longest (λ words. At words × Carried job y x words i) (λ words. Floor
      job y q x words × (root y words < q → Carried job y x words i × Claimed job y x words i))
      (λ words stands h. (h.0.0, λ live. (h.1, claimed_by words e h.0.1))) known)))))
