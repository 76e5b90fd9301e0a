-- A script of a worker has at most twenty-eight operations.
use Rattle.std.proofs.Common.{◌≡◌, ℕ, suc, ◌-◌, ◌*◌, ◌%◌, ◌<◌, ◌≤◌, ◌&&◌}
use Rattle.std.proofs.Common.{◌==◌, nat_le, List, [], ◌∷◌, length, Some, arith, sym, subst, inl}
use Rattle.std.proofs.Common.{inr}
use Rattle.std.specs.Prelude.{min}
use Rattle.std.proofs.lemmas.Bool.{cond_both}
use Rattle.pram_job.specs.Job.{JobData}
use Rattle.pram_words.specs.Phases.{step_at, kind_at}
use Rattle.pram_words.specs.Words.{LayoutData}
use Rattle.pram_words.specs.declared.layout.Form.TheVariants.{Compact}
use Rattle.pram_words.proofs.Numbering.{cases_form}
use Rattle.walkx.specs.declared.operation.Op.{Op}
use Rattle.walkx.specs.Doing.{Doing}
use Rattle.walkx.specs.Doing as doing
use Rattle.walkx.specs.Scripts.{Script, asks, ends, rest_after, rest, first_op}
use Rattle.walk_memory.specs.declared.memo.Memo.{Memo}
use Rattle.walk_memory.specs.Memory.{at_start, memo_of}
use Rattle.walkx.specs.Walk.{Then, after_part, begin_script, block_script, enters, block_mark}
use Rattle.walkx.specs.Walk.{empty_mark, inner_mark, jumps, jumps_first, leaf_script, marks_node}
use Rattle.walkx.specs.Walk.{part_script, script_by, turn_script, worked}
use Rattle.walk_memory.specs.Blocks.{IsWide, has_rank, block_reach, processor_at}
use Rattle.walkx.proofs.BoundPasses.{compact_within, form_within}
use Rattle.walkx.proofs.Forms.{form_cases, form_compact, form_wide_of}
use Rattle.walkx.proofs.BoundTasks.{IsWithin}

-- it asks for no more than so many operations
abbrev pub Short : Script Then → ℕ → Type 0
Short (asks op next) k = (1 ≤ k) × ((found : ℕ) → Short (next found) (k - 1))
Short (ends r) k = Unit {0}

short_more : (s : Script Then) (j k : ℕ) → k ≤ j → Short s k → Short s j
short_more (asks op next) j k h short = (
  omega (arith, short.0),
  λ found. short_more (next found) (j - 1) (k - 1) (omega arith) (short.1 found),
)
short_more (ends r) j k h short = tt

abbrev Within : ℕ → Script Then → Type 0
Within k s = Short s k

short_within : IsWithin Within
short_within = record {
  step = λ j k op next h each.
      (omega arith, λ found. short_more (next found) (j - 1) k (omega arith) (each found));
  more = λ j k script h short. short_more script j k h short;
}

-- after each answer it asks for one less
short_after : (s : Script Then) (k found : ℕ) → Short s k → Short (rest_after s found) (k - 1)
short_after (asks op next) k found short = short.1 found
short_after (ends r) k found short = tt

short_rest : (s : Script Then) (k : ℕ) (answers : List ℕ) → Short s k →
    Short (rest s answers) (k - length answers)
short_rest s k [] short = short_more s (k - 0) k (omega arith) short
short_rest s k (found ∷ earlier) short =
    short_more _ (k - suc (length earlier)) (k - length earlier - 1) (omega arith)
    (short_after (rest s earlier) (k - length earlier) found (short_rest s k earlier short))

asks_one : (s : Script Then) (k : ℕ) (op : Op) → Short s k → first_op s ≡ Some op → 1 ≤ k
asks_one (asks o next) k op short is = short.0
asks_one (ends r) k op short is = absurd (cc)

-- where it asks, fewer were heard
pub few_heard : (s : Script Then) (k : ℕ) (answers : List ℕ) (op : Op) → Short s k →
    first_op (rest s answers) ≡ Some op → length answers < k
few_heard s k answers op short is = omega (
  arith,
  asks_one (rest s answers) (k - length answers) op (short_rest s k answers short) is,
)

-- ---- the scripts of a worker

marks_short : (y : LayoutData) (n m q k : ℕ) → 1 ≤ k → Short (marks_node y n m q) k
marks_short y n m q k h = (h, λ found. tt)

-- with the swap before it
raises_short : (y : LayoutData) (n m reach q k : ℕ) → 2 ≤ k →
    Short (jumps_first y n q reach (marks_node y n m q)) k
raises_short y n m reach q k h = cond_both (jumps y n q reach) _ _ (λ s. Short s k)
    (λ _. (omega arith, λ found. marks_short y n m q (k - 1) (omega arith)))
    (λ _. marks_short y n m q k (omega arith))

-- in the compact form a task and the mark, in the wide form a task alone
part_compact : (job : JobData) (y : LayoutData) (n q rank : ℕ) (memo : Memo) →
    y.form ≡ Compact → Short (part_script job y n q rank memo) 12
unfolding part_script
part_compact job y n q rank memo is =
    compact_within Within short_within y 1 y.form job.rule (kind_at q) job (step_at q)
    (processor_at y n rank) memo (after_part y n q rank) is
    (subst (λ (s : Script Then). Short s 1)
    (sym (form_compact y.form (marks_node y n q q) (ends (worked n q rank memo)) is))
    (marks_short y n q q 1 (omega arith)))

part_wide : (job : JobData) (y : LayoutData) (n q rank : ℕ) (memo : Memo) →
    IsWide y.form → Short (part_script job y n q rank memo) 28
unfolding part_script
part_wide job y n q rank memo wide =
    form_within Within short_within y 0 y.form job.rule (kind_at q) job (step_at q)
    (processor_at y n rank) memo (after_part y n q rank) (λ m.
    subst (λ (s : Script Then). Short s 0)
    (sym (form_wide_of y.form (marks_node y n q q) (ends (worked n q rank m)) wide)) tt)

part_short : (job : JobData) (y : LayoutData) (n q rank : ℕ) (memo : Memo) →
    Short (part_script job y n q rank memo) 28
part_short job y n q rank memo = elim (cases_form y.form) [
  | inl e ↦ short_more (part_script job y n q rank memo) 28 12 (omega arith)
      (part_compact job y n q rank memo e)
  | inr e ↦ part_wide job y n q rank memo (rw e.1 tt)
]

block_short : (job : JobData) (y : LayoutData) (n q rank : ℕ) (memory : List Memo) →
    Short (block_script job y n q rank memory) 28
block_short job y n q rank memory = cond_both (has_rank y n rank) _ _ (λ s. Short s 28)
    (λ _. part_short job y n q rank (memo_of memory (processor_at y n rank)))
    (λ _. raises_short y n (block_mark job y n q memory) (block_reach job y n q memory) q 28
    (omega arith))

leaf_short : (job : JobData) (y : LayoutData) (n q : ℕ) → Short (leaf_script job y n q) 12
leaf_short job y n q = cond_both (has_rank y n 0) _ _ (λ s. Short s 12)
    (λ _. form_cases y.form (part_script job y n q 0 at_start) (ends (enters n q))
    (λ s. Short s 12) (λ e. part_compact job y n q 0 at_start e) (λ w. tt))
    (λ _. marks_short y n (empty_mark job y n q) q 12 (omega arith))

turn_short : (job : JobData) (y : LayoutData) (w n q : ℕ) → Short (turn_script job y w n q) 13
unfolding turn_script
turn_short job y w n q = (
  omega arith,
  λ found. cond_both (nat_le q found) _ _ (λ s. Short s 12)
      (λ _. cond_both (n == 1) _ _ (λ s. Short s 12) (λ _. tt) (λ _. (omega arith, λ stored. tt)))
      (λ _. cond_both (nat_le y.leaves n) _ _ (λ s. Short s 12) (λ _. leaf_short job y n q)
      (λ _. (
        omega arith,
        λ l. (
          omega arith,
          λ r. cond_both (nat_le q l && nat_le q r) _ _ (λ s. Short s 10)
              (λ _. raises_short y n (inner_mark y n q l r) (min l r) q 10 (omega arith))
              (λ _. (omega arith, λ stored. tt)),
        ),
      ))),
)

begin_short : (job : JobData) (y : LayoutData) (n : ℕ) → Short (begin_script job y n) 13
unfolding begin_script
begin_short job y n = (
  omega arith,
  λ root. cond_both (root % 3 == 0) _ _ (λ s. Short s 12)
      (λ _. (
        omega arith,
        λ u. cond_both (u == 0) _ _ (λ s. Short s 11) (λ _.
            cond_both (root == 3 * job.steps) _ _ (λ s. Short s 11) (λ _. tt) (λ _. tt)) (λ _. tt),
      )) (λ _. tt),
)

pub script_short : (job : JobData) (y : LayoutData) (w n : ℕ) (memory : List Memo) (d : Doing) →
    Short (script_by job y w n memory d) 28
script_short job y w n memory doing.Back = (omega arith, λ found. tt)
script_short job y w n memory doing.Begin =
    short_more (begin_script job y n) 28 13 (omega arith) (begin_short job y n)
script_short job y w n memory (doing.Turn q) =
    short_more (turn_script job y w n q) 28 13 (omega arith) (turn_short job y w n q)
script_short job y w n memory (doing.Part q rank) = block_short job y n q rank memory
script_short job y w n memory (doing.Over e) =
    short_more (begin_script job y n) 28 13 (omega arith) (begin_short job y n)
