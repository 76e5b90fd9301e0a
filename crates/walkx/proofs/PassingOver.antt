-- Processors of a block that are passed over, and where the worker then stands.
use Rattle.pram_words.specs.Forms.{by_form}
use Rattle.std.proofs.Common.{◌≡◌, ℕ, zero, suc, ◌+◌, ◌*◌, ◌≤◌, IsTrue, true, false}
use Rattle.std.proofs.Common.{List, Some, refl, sym, subst, inl, inr, arith}
use Rattle.std.specs.Prelude.{slice_set}
use Rattle.std.proofs.lemmas.Bool.{cases_Bool, cond_both}
use Rattle.pram_job.specs.Job.{JobData}
use Rattle.pram_words.specs.Phases.{kind_at, step_at}
use Rattle.pram_words.specs.Words.{LayoutData, grain}
use Rattle.pram_words.specs.declared.layout.Form.{Form}
use Rattle.pram_words.specs.declared.layout.Form.TheVariants.{Compact, Wide}
use Rattle.walk_memory.specs.declared.memo.Memo.{Memo}
use Rattle.walkx.specs.declared.operation.Op.{Op}
use Rattle.walk_memory.specs.Memory.{FitsMemo, FitsMemory, gone_on, memo_of}
use Rattle.walkx.specs.Passes.{task_in}
use Rattle.walkx.specs.Scripts.{Script, asks, ends, first_op}
use Rattle.walkx.specs.Walk.{marks_node, block_script, if_ended, block_mark, ends_block}
use Rattle.walkx.specs.Walk.{part_script, passes_over, task_at, worked}
use Rattle.walk_memory.specs.Blocks.{IsBoard, IsWide, has_rank, block_gone_on, block_reach}
use Rattle.walk_memory.specs.Blocks.{processor_at}
use Rattle.walk_memory.proofs.Boards.{same_procs, step_most}
use Rattle.walkx.proofs.Firsts.{raise_first}
use Rattle.walk_memory.proofs.Ranks.{rank_parts}
use Rattle.walkx.proofs.Alikes.{Alike, asks_first, comes_at_once, task_alike}
use Rattle.walk_memory.proofs.Memories.{memory_set}
use Rattle.walk_memory.proofs.OwnFits.{gone_on_fits}
use Rattle.walkx.proofs.TaskAsking.{AllAsk}
use Rattle.walkx.proofs.WideAsking.{wide_asks}

-- its task by itself, what is then known being all that comes of it
abbrev pub alone : JobData → LayoutData → ℕ → ℕ → ℕ → Memo → Script Memo
alone job y n q rank memo = task_at job y n q rank memo (λ m. ends m)

-- both ask the same first, or come to the same
pub part_alike : (job : JobData) (y : LayoutData) (n q rank : ℕ) (memo : Memo) → IsWide y.form →
    Alike (λ m. ends (worked n q rank m)) (alone job y n q rank memo)
    (part_script job y n q rank memo)
unfolding part_script task_in
part_alike job y n q rank memo wide = by y.form refl wide
  where
    at : (f : Form) → Type 0
    at f = Alike (λ m. ends (worked n q rank m))
        (task_in f job.rule (kind_at q) job y (step_at q) (processor_at y n rank) memo
        (λ m. ends m))
        (task_in f job.rule (kind_at q) job y (step_at q) (processor_at y n rank) memo
        (λ m. by_form f (marks_node y n q q) (ends (worked n q rank m))))

    by : (f : Form) → y.form ≡ f → IsWide f → at y.form
    by Compact is w = absurd w
    by (Wide g) is w = subst at (sym is) (task_alike job y (step_at q) (processor_at y n rank)
        (λ m. ends (worked n q rank m)) job.rule (kind_at q) memo)

-- ---- what is known of one that is passed over fits

alone_fits : (job : JobData) (y : LayoutData) (n q rank : ℕ) (memo learned : Memo) →
    IsBoard job y → IsWide y.form → q ≤ 3 * job.steps → IsTrue (has_rank y n rank) →
    FitsMemo job memo → alone job y n q rank memo ≡ ends learned → FitsMemo job learned
unfolding task_in AllAsk
alone_fits job y n q rank memo learned board wide last there fits is = by y.form refl wide
  where
    ended : (s : Script Memo) → s ≡ ends learned → AllAsk job y (FitsMemo job) s →
        FitsMemo job learned
    ended s e all = subst (AllAsk job y (FitsMemo job)) e all

    by : (f : Form) → y.form ≡ f → IsWide f → FitsMemo job learned
    by Compact e w = absurd w
    by (Wide g) e w = ended (alone job y n q rank memo) is
        (subst (λ (f : Form). AllAsk job y (FitsMemo job) (task_in f job.rule (kind_at q) job y
        (step_at q) (processor_at y n rank) memo (λ m. ends m))) (sym e)
        (wide_asks job y board (FitsMemo job) job.rule (kind_at q) (step_at q)
        (processor_at y n rank) memo (λ m. ends m) refl (step_most job.steps q last)
        ((rank_parts y n rank there).1) fits (λ m fit. fit)))

-- ---- where it ends

pub going_first : {A : Type 0} (s : Script Memo) (op : Op) (going : A) (ended : Memo → A) →
    first_op s ≡ Some op → if_ended s going ended ≡ going
going_first (asks o next) op going ended is = refl
going_first (ends m) op going ended is = absurd (cc)

-- a rank at which the worker has something to do, or the end of the block
pub record Stops (job : JobData) (y : LayoutData) (n q from : ℕ) (passed : ℕ × List Memo) :
    Type 0 where
  pub later : from ≤ passed.0
  pub within : passed.0 ≤ grain y
  pub first : (op : Op) × (first_op (block_script job y n q passed.0 passed.1) ≡ Some op)

module _ (job : JobData) (y : LayoutData) (n q : ℕ) (wide : IsWide y.form) where
  -- no processor of this rank: the leaf is marked
  at_end : (rank : ℕ) (memory : List Memo) → rank ≤ grain y → has_rank y n rank ≡ false →
      Stops job y n q rank (rank, memory)
  at_end rank memory most none = record {
    later = omega arith;
    within = most;
    first = rw none
        (raise_first y n (block_mark job y n q memory) (block_reach job y n q memory) q);
  }

  past_none : (rank : ℕ) → grain y ≤ rank → has_rank y n rank ≡ false
  past_none rank past = elim (cases_Bool (has_rank y n rank)) [
    | inl there ↦ absurd (let h = (rank_parts y n rank there).0 in omega arith)
    | inr none ↦ none
  ]

  stops : (more rank : ℕ) (memory : List Memo) → rank ≤ grain y → grain y ≤ rank + more →
      Stops job y n q rank (passes_over more job y n q rank memory)
  stops zero rank memory most few = at_end rank memory most (past_none rank (omega arith))
  stops (suc more) rank memory most few = elim (cases_Bool (has_rank y n rank)) [
    | inr none ↦ rw none (at_end rank memory most none)
    | inl there ↦ (let below = (rank_parts y n rank there).0 in
        rw there (by there (part_alike job y n q rank memo wide) (λ learned.
        stops more (suc rank) (slice_set memory i learned) (omega arith) (omega arith))))
  ]
    where
      i : ℕ
      i = processor_at y n rank

      memo : Memo
      memo = memo_of memory i

      goes : Memo → ℕ × List Memo
      goes m = passes_over more job y n q (suc rank) (slice_set memory i m)

      by : has_rank y n rank ≡ true →
          Alike (λ m. ends (worked n q rank m)) (alone job y n q rank memo)
          (part_script job y n q rank memo) →
          ((learned : Memo) → Stops job y n q (suc rank) (goes learned)) →
          Stops job y n q rank (if_ended (alone job y n q rank memo) (rank, memory) goes)
      by there (asks_first op e f) next =
          subst (Stops job y n q rank)
          (sym (going_first (alone job y n q rank memo) op (rank, memory) goes e)) (record {
            later = omega arith;
            within = most;
            first = rw there (op, f);
          })
      by there (comes_at_once learned e f) next =
          let stop = next learned in
          rw e (record {
            later = let l = stop.later in omega arith;
            within = stop.within;
            first = stop.first;
          })

  -- at its end the block goes on alone
  ended_stops : (from : ℕ) (passed : ℕ × List Memo) → Stops job y n q from passed →
      Stops job y n q from (ends_block job y n passed)
  ended_stops from passed stop = elim (cases_Bool (has_rank y n passed.0)) [
    | inl there ↦ rw there stop
    | inr none ↦ rw none (record {
      later = stop.later;
      within = stop.within;
      first = rw none (raise_first y n (block_mark job y n q gone) (block_reach job y n q gone) q);
    })
  ]
    where
      gone : List Memo
      gone = block_gone_on (grain y) job y n 0 passed.1

  -- in a block, from this rank on
  pub goes_stops : (rank : ℕ) (memory : List Memo) → rank ≤ grain y →
      Stops job y n q rank (ends_block job y n (passes_over (grain y) job y n q rank memory))
  goes_stops rank memory most =
      ended_stops rank (passes_over (grain y) job y n q rank memory)
      (stops (grain y) rank memory most (omega arith))

-- what is then remembered fits
module _ (job : JobData) (y : LayoutData) (n q : ℕ) (board : IsBoard job y) (wide : IsWide y.form)
    (last : q ≤ 3 * job.steps) where
  passed_fits : (more rank : ℕ) (memory : List Memo) → FitsMemory job memory →
      FitsMemory job (passes_over more job y n q rank memory).1
  passed_fits zero rank memory fits = fits
  passed_fits (suc more) rank memory fits = elim (cases_Bool (has_rank y n rank)) [
    | inr none ↦ rw none fits
    | inl there ↦ rw there (by there (part_alike job y n q rank memo wide) (λ learned fit.
        passed_fits more (suc rank) (slice_set memory i learned)
        (memory_set job memory i learned fits fit)))
  ]
    where
      i : ℕ
      i = processor_at y n rank

      memo : Memo
      memo = memo_of memory i

      goes : Memo → ℕ × List Memo
      goes m = passes_over more job y n q (suc rank) (slice_set memory i m)

      by : has_rank y n rank ≡ true →
          Alike (λ m. ends (worked n q rank m)) (alone job y n q rank memo)
          (part_script job y n q rank memo) →
          ((learned : Memo) → FitsMemo job learned → FitsMemory job (goes learned).1) →
          FitsMemory job (if_ended (alone job y n q rank memo) (rank, memory) goes).1
      by there (asks_first op e f) next =
          rw (going_first (alone job y n q rank memo) op (rank, memory) goes e) fits
      by there (comes_at_once learned e f) next =
          rw e (next learned
          (alone_fits job y n q rank memo learned board wide last there (fits i) e))

  gone_fits : (more rank : ℕ) (memory : List Memo) → FitsMemory job memory →
      FitsMemory job (block_gone_on more job y n rank memory)
  gone_fits zero rank memory fits = fits
  gone_fits (suc more) rank memory fits =
      let i = processor_at y n rank in
      cond_both (has_rank y n rank) _ memory (FitsMemory job)
      (λ there. let proc = (rank_parts y n rank there).1 in
      let same = same_procs job y board in
      gone_fits more (suc rank) (slice_set memory i (gone_on job i (memo_of memory i)))
      (memory_set job memory i (gone_on job i (memo_of memory i)) fits
      (gone_on_fits job i board.limits (omega (arith, proc, same)) (memo_of memory i) (fits i))))
      (λ none. fits)

  ended_fits : (passed : ℕ × List Memo) → FitsMemory job passed.1 →
      FitsMemory job (ends_block job y n passed).1
  ended_fits passed fits = cond_both (has_rank y n passed.0) passed _ (λ p. FitsMemory job p.1)
      (λ there. fits) (λ none. gone_fits (grain y) 0 passed.1 fits)

  pub goes_fit : (rank : ℕ) (memory : List Memo) → FitsMemory job memory →
      FitsMemory job (ends_block job y n (passes_over (grain y) job y n q rank memory)).1
  goes_fit rank memory fits =
      ended_fits (passes_over (grain y) job y n q rank memory)
      (passed_fits (grain y) rank memory fits)
