-- What a worker that fits asks is on the board, and what it writes is admitted there.
use Rattle.std.proofs.Common.{◌≡◌, ℕ, ◌+◌, ◌-◌, ◌*◌, ◌/◌, ◌%◌, ◌<◌, ◌≤◌}
use Rattle.std.proofs.Common.{◌==◌, ◌&&◌, nat_le, true, IsTrue}
use Rattle.std.specs.Prelude.{min}
use Rattle.std.proofs.Common.{List, [], ◌∷◌, ◌++◌}
use Rattle.std.proofs.Common.{Some, refl, ap, inl, inr, lit<, arith}
use Rattle.std.proofs.lemmas.Bool.{cond_both, eqb-false}
use Rattle.std.proofs.lemmas.Bool.{leb-false}
use Rattle.pram_job.specs.Job.{JobData}
use Rattle.pram_words.specs.declared.words.Word.TheVariants.{Conflict, Node}
use Rattle.pram_words.specs.declared.words.Word.TheVariants.{Position}
use Rattle.pram_words.specs.Phases.{step_at, kind_at, has_phase}
use Rattle.pram_words.specs.Words.{LayoutData}
use Rattle.walkx.specs.declared.operation.Op.{Op}
use Rattle.walkx.specs.Doing.{Doing}
use Rattle.walkx.specs.Doing as doing
use Rattle.walkx.specs.Laws.{EachOperationIsAdmitted, WhoIsGoingSteps}
use Rattle.walkx.specs.Scripts.{Script, asks, ends, rest_after, rest, first_op, op_with, heard_in}
use Rattle.walkx.specs.Walk.{Then, Walking, Fits, IsGoing, IsPhase, AllAdmitted, AsksAdmitted}
use Rattle.walkx.specs.Walk.{IsStepOn, node_of, script_by, script_of, rest_of, ask_of, next_op}
use Rattle.walkx.specs.Walk.{end_of, phase_begun, after_part, block_script, enters, part_script}
use Rattle.walkx.specs.Walk.{worked, block_mark, empty_mark, inner_mark, jumps, jumps_first}
use Rattle.walkx.specs.Walk.{marks_node, stands_at, way_down, begin_script, turn_script}
use Rattle.walk_memory.specs.Blocks.{IsBoard, has_rank, processor_at, block_reach}
use Rattle.walk_memory.specs.declared.memo.Memo.{Memo}
use Rattle.walk_memory.specs.Memory.{FitsMemo, FitsMemory, at_start}
use Rattle.walkx.proofs.Forms.{form_both}
use Rattle.walk_memory.proofs.OwnFits.{start_fits}
use Rattle.walk_memory.proofs.Boards.{admits, in_range, step_most}
use Rattle.walkx.proofs.Ends.{way_inside}
use Rattle.walk_memory.proofs.Ranks.{rank_parts}
use Rattle.walkx.proofs.Nodes.{node_range}
use Rattle.walkx.proofs.Marks.{IsMark, block_marks, block_reaches, empty_marks, inner_marks}
use Rattle.walkx.proofs.Marks.{inner_reaches, jump_from, jumps_where, phase_marks}
use Rattle.walkx.proofs.Going.{Asks, asks_of, going_or_over, next_of}
use Rattle.walkx.proofs.TaskAsking.{AllAsk, ends_of, load_of, max_of, swap_of}
use Rattle.walkx.proofs.WideAsking.{form_asks}

-- what a worker learns of a processor fits
abbrev pub FitsThen : JobData → Then → Type 0
FitsThen job (worked node phase rank memo) = FitsMemo job memo
FitsThen job _ = Unit {0}

module _ (job : JobData) (y : LayoutData) (board : IsBoard job y) where
  abbrev InForm : ℕ → Type 0
  InForm q = IsTrue (has_phase y.form q)

  marks_ask : (n m q : ℕ) → 1 ≤ n → n < 2 * y.leaves → IsMark job.steps y q m →
      AllAsk job y (FitsThen job) (marks_node y n m q)
  marks_ask n m q low high is =
      max_of job y board (FitsThen job) (Node n) m _ (low, high) (is.most, is.formed)
      (ends_of job y board (FitsThen job) _ tt)

  -- with the swap before it, to a phase that may be above the mark
  raises_ask : (n m reach q : ℕ) → 1 ≤ n → n < 2 * y.leaves → q ≤ 3 * job.steps →
      IsMark job.steps y q m → (jumps y n q reach ≡ true → IsMark job.steps y q reach) →
      AllAsk job y (FitsThen job) (jumps_first y n q reach (marks_node y n m q))
  raises_ask n m reach q low high last is to =
      let marked = marks_ask n m q low high is in
      cond_both (jumps y n q reach) _ _ (AllAsk job y (FitsThen job))
      (λ e. let reached = to e in
      swap_of job y board (FitsThen job) (Node n) (q - 1) reach _ (low, high)
      (jump_from job.steps y n q reach last (jumps_where y n q reach e))
      (reached.most, reached.formed) marked) (λ e. marked)

  stands_ask : (w n q : ℕ) → w < y.workers → 1 ≤ n → n < 2 * y.leaves →
      AllAsk job y (FitsThen job) (stands_at y w n q)
  unfolding AllAsk
  stands_ask w n q worker low high =
      let k = admits job y (Position w) n board worker (low, high) in ((k.0, k), λ found ok. tt)

  pub part_asks : (n q rank : ℕ) (memo : Memo) → 1 ≤ n → n < 2 * y.leaves → q ≤ 3 * job.steps →
      InForm q → IsTrue (has_rank y n rank) → FitsMemo job memo →
      AllAsk job y (FitsThen job) (part_script job y n q rank memo)
  unfolding part_script
  part_asks n q rank memo low high last formed there fits =
      form_asks job y board (FitsThen job) y.form (kind_at q) (step_at q)
      (processor_at y n rank) memo
      (after_part y n q rank) refl (step_most job.steps q last) ((rank_parts y n rank there).1) fits
      (λ m fit. form_both y.form (marks_node y n q q) (ends (worked n q rank m))
      (AllAsk job y (FitsThen job))
      (marks_ask n q q low high (phase_marks job.steps y q last formed))
      (ends_of job y board (FitsThen job) (worked n q rank m) fit))

  pub block_asks : (n q rank : ℕ) (memory : List Memo) → 1 ≤ n → n < 2 * y.leaves →
      q ≤ 3 * job.steps → InForm q → FitsMemory job memory →
      AllAsk job y (FitsThen job) (block_script job y n q rank memory)
  block_asks n q rank memory low high last formed fits =
      cond_both (has_rank y n rank) _ _ (AllAsk job y (FitsThen job))
      (λ e. part_asks n q rank _ low high last formed e (fits (processor_at y n rank)))
      (λ e. raises_ask n (block_mark job y n q memory) (block_reach job y n q memory) q low high
      last (block_marks job y n q memory last formed fits)
      (λ jump. block_reaches job y n q memory last formed fits))

  turn_asks : (w n q : ℕ) → w < y.workers → 1 ≤ n → n < 2 * y.leaves → q ≤ 3 * job.steps →
      InForm q → AllAsk job y (FitsThen job) (turn_script job y w n q)
  unfolding turn_script
  turn_asks w n q worker low high last formed =
      load_of job y board (FitsThen job) (Node n) _ (low, high) (λ found ok.
      cond_both (nat_le q found) _ _ (AllAsk job y (FitsThen job))
      (λ e. cond_both (n == 1) _ _ (AllAsk job y (FitsThen job))
      (λ g. ends_of job y board (FitsThen job) _ tt) (λ g.
      let h = eqb-false n 1 g in stands_ask w (n / 2) q worker (omega arith) (omega arith)))
      (λ e. cond_both (nat_le y.leaves n) _ _ (AllAsk job y (FitsThen job))
      (λ g. cond_both (has_rank y n 0) _ _ (AllAsk job y (FitsThen job))
      (λ h. form_both y.form (part_script job y n q 0 at_start) (ends (enters n q))
      (AllAsk job y (FitsThen job))
      (part_asks n q 0 at_start low high last formed h (start_fits job))
      (ends_of job y board (FitsThen job) (enters n q) tt))
      (λ h. marks_ask n (empty_mark job y n q) q low high (empty_marks job y n q last formed)))
      (λ g. let l = leb-false y.leaves n g in
      load_of job y board (FitsThen job) (Node (2 * n)) _ (omega arith, omega arith)
      (λ a left. load_of job y board (FitsThen job) (Node (2 * n + 1)) _
      (omega arith, omega arith) (λ b right.
      cond_both (nat_le q a && nat_le q b) _ _ (AllAsk job y (FitsThen job))
      (λ h. let in_left = in_range job y (Node (2 * n)) a board (omega arith, omega arith) left in
      let in_right = in_range job y (Node (2 * n + 1)) b board (omega arith, omega arith) right in
      raises_ask n (inner_mark y n q a b) (min a b) q low high last
      (inner_marks job.steps y n q a b last formed in_left in_right h)
      (λ jump. inner_reaches job.steps y q a b in_left in_right h)) (λ h.
      let to = way_inside y w n q a b low l in
      stands_ask w (way_down y w n q a b) q worker to.0 to.1))))))

  begin_asks : (n : ℕ) → AllAsk job y (FitsThen job) (begin_script job y n)
  unfolding begin_script
  begin_asks n =
      let leaves = board.layout.leaves in
      load_of job y board (FitsThen job) (Node 1) _ (lit< tt, omega arith)
      (λ r ok. cond_both (r % 3 == 0) _ _ (AllAsk {R = Then} job y (FitsThen job))
      (λ e. load_of job y board (FitsThen job) Conflict _ tt
      (λ u ok. cond_both (u == 0) _ _ (AllAsk {R = Then} job y (FitsThen job))
      (λ g. cond_both (r == 3 * job.steps) _ _ (AllAsk {R = Then} job y (FitsThen job))
      (λ h. ends_of job y board (FitsThen job) _ tt) (λ h. ends_of job y board (FitsThen job) _ tt))
      (λ g. ends_of job y board (FitsThen job) _ tt)))
      (λ e. ends_of job y board (FitsThen job) _ tt))

  pub doing_asks : (w n : ℕ) (memory : List Memo) (d : Doing) →
      w < y.workers → 1 ≤ n → n < 2 * y.leaves → IsPhase job y d → FitsMemory job memory →
      AllAsk job y (FitsThen job) (script_by job y w n memory d)
  doing_asks w n memory doing.Back worker low high phase fits =
      load_of job y board (FitsThen job) (Position w) _ worker
      (λ found ok. ends_of job y board (FitsThen job) _ tt)
  doing_asks w n memory doing.Begin worker low high phase fits = begin_asks n
  doing_asks w n memory (doing.Turn q) worker low high phase fits =
      turn_asks w n q worker low high phase.1 phase.2
  doing_asks w n memory (doing.Part q rank) worker low high phase fits =
      block_asks n q rank memory low high phase.1 phase.2 fits
  doing_asks w n memory (doing.Over e) worker low high phase fits = begin_asks n

-- ---- in the midst of a script

pub first_admitted : (job : JobData) (y : LayoutData) (op : Op) (next : ℕ → Script Then) →
    AllAsk job y (FitsThen job) (asks op next) → AsksAdmitted job y op
unfolding AllAsk
first_admitted job y op next each = each.0.1

pub all_left : (job : JobData) (y : LayoutData) (xs ys : List (Op × ℕ)) →
    AllAdmitted job y (xs ++ ys) → AllAdmitted job y xs
all_left job y [] ys all = tt
all_left job y (x ∷ xs) ys all = (all.0, all_left job y xs ys all.1)

asks_next : {R : Type 0} (E : R → Type 0) (job : JobData) (y : LayoutData) (script : Script R)
    (found : ℕ) (heard : List (Op × ℕ)) → AllAdmitted job y (op_with script found ++ heard) →
    AllAsk job y E script → AllAsk job y E (rest_after script found)
unfolding AllAsk
asks_next E job y (asks op next) found heard all each = each.1 found all.0
asks_next E job y (ends r) found heard all each = each

pub admitted_earlier : {R : Type 0} (job : JobData)
    (y : LayoutData) (script : Script R) (found : ℕ) (heard : List (Op × ℕ)) →
    AllAdmitted job y (op_with script found ++ heard) → AllAdmitted job y heard
admitted_earlier job y (asks op next) found heard all = all.1
admitted_earlier job y (ends r) found heard all = all

pub asks_after : {R : Type 0} (E : R → Type 0) (job : JobData)
    (y : LayoutData) (script : Script R) (answers : List ℕ) →
    AllAdmitted job y (heard_in script answers) → AllAsk job y E script →
    AllAsk job y E (rest script answers)
asks_after E job y script [] all each = each
asks_after E job y script (found ∷ earlier) all each =
    asks_next E job y (rest script earlier) found (heard_in script earlier) all
    (asks_after E job y script earlier
    (admitted_earlier job y (rest script earlier) found (heard_in script earlier) all) each)

-- a worker's script, and the rest of it
pub script_asks : (job : JobData) (y : LayoutData) (w : Walking) → IsBoard job y → Fits job y w →
    AllAsk job y (FitsThen job) (script_of job y w)
script_asks job y w board fits =
    let leaves = board.layout.leaves in
    let at = node_range job y w leaves.0 fits in
    doing_asks job y board w.number (node_of y w) w.memory w.now fits.number at.0 at.1 fits.phase
    fits.memory

rest_asks : (job : JobData) (y : LayoutData) (w : Walking) → IsBoard job y → Fits job y w →
    AllAsk job y (FitsThen job) (rest_of job y w)
rest_asks job y w board fits =
    asks_after (FitsThen job) job y (script_of job y w) w.heard
    (all_left job y (heard_in (script_of job y w) w.heard) (phase_begun y w.now) fits.admitted)
    (script_asks job y w board fits)

-- the next operation
first_asks : (job : JobData) (y : LayoutData) (d : Doing) (script : Script Then) (op : Op) →
    IsGoing d → first_op script ≡ Some op → AllAsk job y (FitsThen job) script →
    IsStepOn y (next_op d script) × AsksAdmitted job y (next_op d script)
unfolding AllAsk
first_asks job y d (asks o next) op going first each =
    rw (next_of d (asks o next) o going refl) each.0
first_asks job y d (ends r) op going first each = absurd (cc)

going_asks : (job : JobData) (y : LayoutData) (w : Walking) → IsBoard job y → Fits job y w →
    IsGoing w.now → IsStepOn y (ask_of job y w) × AsksAdmitted job y (ask_of job y w)
going_asks job y w board fits going =
    let a : Asks (rest_of job y w) = asks_of w.now (rest_of job y w) going fits.matches in
    first_asks job y w.now (rest_of job y w) a.op going a.first (rest_asks job y w board fits)

pub all_ask : EachOperationIsAdmitted
all_ask job y w board fits = elim (going_or_over w.now) [
  | inl going ↦ (going_asks job y w board fits going).1
  | inr over ↦ rw over.1 tt
]

pub going_steps : WhoIsGoingSteps
going_steps job y w board fits none = elim (going_or_over w.now) [
  | inl going ↦ (going_asks job y w board fits going).0
  | inr over ↦ let e : end_of w.now ≡ Some over.0 = ap end_of over.1 in absurd (cc)
]
