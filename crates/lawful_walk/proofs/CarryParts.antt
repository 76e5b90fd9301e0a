-- A processor's store in the wide form: it is one write.
use Rattle.std.proofs.Common.{◌≡◌, ℕ, suc, ◌+◌, ◌*◌, ◌<◌, ◌≤◌, List, sym, subst, ◌∙◌, arith}
use Rattle.std.proofs.lemmas.Bool.{lt-ltb}
use Rattle.std.proofs.lemmas.Option.{some_pair_parts}
use Rattle.pram_job.specs.Job.{JobData}
use Rattle.pram_step.specs.History.{Asks}
use Rattle.pram_words.specs.declared.layout.Form.{Form}
use Rattle.pram_words.specs.declared.layout.Form.TheVariants.{Wide}
use Rattle.pram_words.specs.Phases.{step_at}
use Rattle.pram_words.specs.Words.{LayoutData, places_of}
use Rattle.walk_memory.specs.Blocks.{IsBoard}
use Rattle.walk_memory.proofs.Boards.{same_cells}
use Rattle.lawful_walk.specs.Board.{IsLate, CarriedCell}
use Rattle.lawful_walk.specs.Lands.{phase_written}
use Rattle.lawful_walk.proofs.OwnPlaces.{asks_cell}
use Rattle.lawful_walk.proofs.Scripts.{Aim}
use Rattle.lawful_walk.proofs.Stores.{NoStore}

module _ (job : JobData) (y : LayoutData) (board : IsBoard job y) where
  pub cell_in : (c : ℕ) → c < job.cells → c < places_of y
  cell_in c cell = let b = same_cells job y board in omega arith

module _ (job : JobData) (y : LayoutData) (q g x : ℕ) (wide : y.form ≡ Wide g)
    (phase : 3 * x + 3 ≡ q) where
  pub written : (c : ℕ) → c < job.cells → q ≡ phase_written y.form job c x
  written c cell = subst (λ (f : Form). q ≡ phase_written f job c x) (sym wide)
      (rw (lt-ltb c job.cells cell) (sym phase))

-- what i stores is one write
module _ (job : JobData) (x i : ℕ) where
  pub one_store : (c v d u : ℕ) → c < job.cells → d < job.cells → Asks job x c i v →
      Asks job x d i u →
      (c ≡ d) × (v ≡ u)
  one_store c v d u cell also a b = some_pair_parts c d v u
      (sym (asks_cell job x i c v cell a) ∙ asks_cell job x i d u also b)

module _ (job : JobData) (y : LayoutData) (x i : ℕ) where
  pub carried_by : (c v : ℕ) (words : List ℕ) → c < job.cells → Asks job x c i v →
      IsLate y x c words →
      CarriedCell job y x words i
  carried_by c v words cell asked late d u other also wins =
      subst (λ (d : ℕ). IsLate y x d words) (one_store job x i c v d u cell also asked other).0 late

module _ (job : JobData) (y : LayoutData) (w q : ℕ) (aim : Aim) (g x i : ℕ) (some : 1 ≤ q)
    (most : q ≤ 3 * job.steps) (step : step_at q ≡ suc x) (board : IsBoard job y)
    (proc : i < y.procs) (wide : y.form ≡ Wide g) where
  pub none_carried : NoStore job y w q aim g x i some most step board proc wide → (words : List ℕ) →
      CarriedCell job y x words i
  none_carried none words c v asked cell wins = absurd (none c v cell asked)
