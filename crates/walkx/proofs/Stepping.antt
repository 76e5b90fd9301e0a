-- A processor of a block that is passed over, or not.
use Rattle.std.proofs.Common.{◌≡◌, ℕ, zero, suc, true, false, List, Option, Some, None}
use Rattle.std.proofs.Common.{refl, sym, ap, subst, ◌∙◌}
use Rattle.std.specs.Prelude.{slice_set}
use Rattle.pram_job.specs.Job.{JobData}
use Rattle.pram_words.specs.declared.layout.Form.{Form}
use Rattle.pram_words.specs.declared.layout.Form.TheVariants.{Compact, Wide}
use Rattle.pram_words.specs.Phases.{kind_at, step_at}
use Rattle.pram_words.specs.Words.{LayoutData}
use Rattle.walk_memory.specs.declared.memo.Memo.{Memo}
use Rattle.walk_memory.specs.Memory.{memo_of}
use Rattle.walkx.specs.Passes.{task_in, wide_task_of}
use Rattle.walkx.specs.Scripts.{Script, asks, ends}
use Rattle.walk_memory.specs.Blocks.{IsWide, has_rank, processor_at}
use Rattle.walkx.specs.Walk.{if_ended, passes_over, task_at}

abbrev alone : JobData → LayoutData → ℕ → ℕ → ℕ → Memo → Script Memo
alone job y n q rank memo = task_at job y n q rank memo (λ m. ends m)

ended_some : (s : Script Memo) (m : Memo) → if_ended s None (λ x. Some x) ≡ Some m → s ≡ ends m
ended_some (asks op next) m is = absurd (cc)
ended_some (ends x) m is = let same : x ≡ m = cc in ap (λ (k : Memo). ends k) same

ended_none : {A : Type 0} (s : Script Memo) (going : A) (f : Memo → A) →
    if_ended s None (λ x. Some x) ≡ None → if_ended s going f ≡ going
ended_none (asks op next) going f is = refl
ended_none (ends x) going f is = absurd (cc)

module _ (job : JobData) (y : LayoutData) (n q rank : ℕ) (memory : List Memo)
    (wide : IsWide y.form) where
  abbrev memo : Memo
  memo = memo_of memory (processor_at y n rank)

  abbrev known : Option Memo
  known = if_ended (wide_task_of job.rule (kind_at q) job y (step_at q) (processor_at y n rank)
      (memo_of memory (processor_at y n rank)) (λ m. ends m)) None (λ m. Some m)

  alone_is : alone job y n q rank memo ≡ wide_task_of job.rule (kind_at q) job y (step_at q)
      (processor_at y n rank) memo (λ m. ends m)
  unfolding task_in
  alone_is = by y.form refl wide
    where
      to : Form → Type 0
      to f = task_in f job.rule (kind_at q) job y (step_at q) (processor_at y n rank) memo
          (λ m. ends m) ≡ wide_task_of job.rule (kind_at q) job y (step_at q)
          (processor_at y n rank) memo (λ m. ends m)

      by : (f : Form) → y.form ≡ f → IsWide f → to y.form
      by Compact e w = absurd w
      by (Wide g) e w = subst to (sym e) refl

  pub none_left : (fuel : ℕ) → has_rank y n rank ≡ false →
      passes_over fuel job y n q rank memory ≡ (rank, memory)
  none_left zero none = refl
  none_left (suc fuel) none = rw none refl

  pub stops_here : (fuel : ℕ) → has_rank y n rank ≡ true → known ≡ None →
      passes_over fuel job y n q rank memory ≡ (rank, memory)
  stops_here zero there none = refl
  stops_here (suc fuel) there none = rw there (ended_none (alone job y n q rank memo) (rank, memory)
      _ (ap (λ (s : Script Memo). if_ended s None (λ m. Some m)) alone_is ∙ none))

  pub goes_past : (fuel more to : ℕ) (m : Memo) → fuel ≡ suc more → to ≡ suc rank →
      has_rank y n rank ≡ true →
      known ≡ Some m → passes_over fuel job y n q rank memory
      ≡ passes_over more job y n q to (slice_set memory (processor_at y n rank) m)
  goes_past fuel more to m is next there some =
      let e : alone job y n q rank memo ≡ ends m =
      ended_some (alone job y n q rank memo) m
      (ap (λ (s : Script Memo). if_ended s None (λ x. Some x)) alone_is ∙ some) in
      rw next (rw is (rw there (rw e refl)))
