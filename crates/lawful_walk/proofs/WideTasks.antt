-- The tasks of the wide form keep the words, by rule and pass.
use Rattle.std.proofs.Common.{◌≡◌, ℕ, suc, ◌*◌, ◌<◌, ◌≤◌, IsTrue, List, refl, sym, subst}
use Rattle.std.proofs.Common.{ap}
use Rattle.pram_job.specs.declared.instr.Rule.{Rule}
use Rattle.pram_job.specs.declared.instr.Rule.TheVariants.{Common, Priority, Crew}
use Rattle.pram_job.specs.Job.{JobData}
use Rattle.pram_words.specs.declared.layout.Form.{Form}
use Rattle.pram_words.specs.declared.layout.Form.TheVariants.{Wide}
use Rattle.pram_words.specs.declared.phases.Kind.{Kind}
use Rattle.pram_words.specs.declared.phases.Kind.TheVariants.{Compute, Apply, Verify}
use Rattle.pram_words.specs.Phases.{step_at}
use Rattle.pram_words.specs.Words.{LayoutData, has_claims}
use Rattle.walkx.specs.declared.operation.Op.{Op}
use Rattle.walkx.specs.Scripts.{Script}
use Rattle.walkx.specs.Walk.{Then}
use Rattle.walk_memory.specs.Blocks.{IsBoard}
use Rattle.walk_memory.specs.declared.memo.Memo.{Memo}
use Rattle.walk_memory.specs.Memory.{IsTrueMemo}
use Rattle.walkx.specs.Passes.{wide_task_of}
use Rattle.lawful_walk.specs.Board.{phase_in, root, Done, DoneIn}
use Rattle.lawful_walk.specs.Writes.{Floor}
use Rattle.lawful_walk.proofs.CarryTasks.{carry_task_safe}
use Rattle.lawful_walk.proofs.ClaimTasks.{crew_carry_task_safe, priority_carry_task_safe}
use Rattle.lawful_walk.proofs.Known.{EndSafe, LearnedSafe}
use Rattle.lawful_walk.proofs.OwnTasks.{own_task_safe, own_claim_task_safe}
use Rattle.lawful_walk.proofs.Scripts.{Aim, Safe}
use Rattle.lawful_walk.proofs.Sees.{Sees, so}

claims_are : (job : JobData) (y : LayoutData) (rule : Rule) → IsBoard job y → job.rule ≡ rule →
    IsTrue (has_claims rule) → IsTrue y.claims
claims_are job y rule board is has = subst IsTrue (sym (ap (λ (z : LayoutData). z.claims) board.is))
    (subst (λ (r : Rule). IsTrue (has_claims r)) (sym is) has)

module _ (job : JobData) (y : LayoutData) (w q : ℕ) (aim : Aim) (g x i : ℕ) (some : 1 ≤ q)
    (most : q ≤ 3 * job.steps) (step : step_at q ≡ suc x) (board : IsBoard job y)
    (proc : i < y.procs) (wide : y.form ≡ Wide g) where
  -- in the second phase of a step nothing is done
  nothing_safe : (after : Script Then) → EndSafe job y w q aim x (λ words. Unit {0}) after →
      (history : List (Op × ℕ)) → Sees job y history (Floor job y q x) →
      Safe job y w q aim after history
  nothing_safe after done history sees = done history (so job y history
      (Floor job y q x) (λ words. Floor job y q x words × (root y words < q → Unit {0}))
      (λ words stands f. (f, λ live. tt)) sees)

  by_kind : (rule : Rule) (kind : Kind) → job.rule ≡ rule → phase_in x kind ≡ q →
      (memo : Memo) → IsTrueMemo job i memo → (after : Memo → Script Then) →
      LearnedSafe job y w q aim x i (λ words. DoneIn (Wide g) rule kind job y x words i) after →
      (history : List (Op × ℕ)) → Sees job y history (Floor job y q x) →
      Safe job y w q aim (wide_task_of rule kind job y (suc x) i memo after) history
  unfolding wide_task_of
  by_kind Common Compute is phase memo is_true after done history sees =
      own_task_safe job y w q aim g x i some most step board proc wide phase is memo is_true after
      done history sees
  by_kind Priority Compute is phase memo is_true after done history sees =
      own_claim_task_safe job y w q aim g x i some most step board proc wide phase
      (claims_are job y Priority board is refl) Priority is after done
      (λ words carried claimed. (carried, claimed)) memo is_true history sees
  by_kind Crew Compute is phase memo is_true after done history sees =
      own_claim_task_safe job y w q aim g x i some most step board proc wide phase
      (claims_are job y Crew board is refl) Crew is after done
      (λ words carried claimed. (carried, claimed)) memo is_true history sees
  by_kind Common Apply is phase memo is_true after done history sees =
      nothing_safe (after memo) (done memo is_true) history sees
  by_kind Priority Apply is phase memo is_true after done history sees =
      nothing_safe (after memo) (done memo is_true) history sees
  by_kind Crew Apply is phase memo is_true after done history sees =
      nothing_safe (after memo) (done memo is_true) history sees
  by_kind Common Verify is phase memo is_true after done history sees =
      carry_task_safe job y w q aim g x i some most step board proc wide phase is memo is_true after
      done history sees
  by_kind Priority Verify is phase memo is_true after done history sees =
      priority_carry_task_safe job y w q aim g x i some most step board proc wide phase is
      (claims_are job y Priority board is refl) memo is_true after done history sees
  by_kind Crew Verify is phase memo is_true after done history sees =
      crew_carry_task_safe job y w q aim g x i some most step board proc wide phase is
      (claims_are job y Crew board is refl) memo is_true after done history sees

  -- The task of each rule and kind.
  pub wide_task_safe : (rule : Rule) (kind : Kind) → job.rule ≡ rule → phase_in x kind ≡ q →
      (memo : Memo) → IsTrueMemo job i memo → (after : Memo → Script Then) →
      LearnedSafe job y w q aim x i (λ words. Done rule kind job y x words i) after →
      (history : List (Op × ℕ)) → Sees job y history (Floor job y q x) →
      Safe job y w q aim (wide_task_of rule kind job y (suc x) i memo after) history
  wide_task_safe rule kind is phase memo is_true after done history sees =
      by_kind rule kind is phase memo is_true after
      (subst (λ (f : Form).
      LearnedSafe job y w q aim x i (λ words. DoneIn f rule kind job y x words i) after) wide done)
      history sees
