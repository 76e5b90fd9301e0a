-- What the scripts end with, and what was heard in them.
use Rattle.std.proofs.Common.{◌≡◌, ◌≢◌, ℕ, IsTrue, ◌+◌, ◌*◌, ◌%◌, ◌<◌, ◌≤◌, ◌==◌, ◌&&◌}
use Rattle.std.proofs.Common.{nat_le, if◌then◌else◌, List, [], ◌∷◌, ◌++◌, refl, sym, ap, subst}
use Rattle.std.proofs.Common.{arith, ◌∙◌}
use Rattle.std.specs.Prelude.{min}
use Rattle.std.proofs.lemmas.Bool.{cond_both, eqb-true, eqb-false}
use Rattle.std.proofs.lemmas.Bool.{leb-true, leb-false, eq-eqb, ne_eqb}
use Rattle.pram_job.specs.Job.{JobData}
use Rattle.pram_words.specs.declared.layout.Form.{Form}
use Rattle.pram_words.specs.declared.layout.Form.TheVariants.{Compact, Wide}
use Rattle.pram_words.specs.Words.{LayoutData, number_of}
use Rattle.pram_words.proofs.NextPhases.{before_next}
use Rattle.pram_words.specs.Phases.{step_at, kind_at, has_phase, next_phase}
use Rattle.pram_words.specs.Ways.{turns_right_in}
use Rattle.pram_words.specs.declared.words.Word.TheVariants.{Conflict, Node, Position}
use Rattle.walkx.specs.declared.operation.Ended.TheVariants as ended
use Rattle.walkx.specs.declared.operation.Op.{Op}
use Rattle.walkx.specs.declared.operation.Op.TheVariants.{Load}
use Rattle.walkx.specs.Doing.{Doing}
use Rattle.walkx.specs.Doing as doing
use Rattle.walkx.specs.Scripts.{Script, asks, ends, rest_after, rest, op_with, heard_in}
use Rattle.walk_memory.specs.declared.memo.Memo.{Memo}
use Rattle.walk_memory.specs.Memory.{at_start}
use Rattle.walkx.specs.Walk.{Then, begins, turns, enters, worked, stops, Walking, HearsAdmitted}
use Rattle.walkx.specs.Walk.{HearsPhase, IsInBlock, block_script, marks_node, AllAdmitted}
use Rattle.walkx.specs.Walk.{script_by, script_of, rest_of, node_of, phase_begun, heard_of}
use Rattle.walkx.specs.Walk.{turn_script, begin_script, part_script, after_part, begun_phase}
use Rattle.walkx.specs.Walk.{block_mark, inner_mark, jumps, jumps_first, way_down}
use Rattle.walk_memory.specs.Blocks.{IsWide, has_rank, block_reach, processor_at}
use Rattle.walkx.proofs.Forms.{form_cases, not_both}
use Rattle.walkx.proofs.BoundTasks.{IsWithin}
use Rattle.walkx.proofs.BoundPasses.{form_within}

-- whatever is heard, this holds of what comes of the script and of its steps, the newest first
abbrev pub AllEnds : {R : Type 0} → (R → List (Op × ℕ) → Type 0) → Script R → List (Op × ℕ) → Type 0
AllEnds Q (asks op next) history = (found : ℕ) → AllEnds Q (next found) ((op, found) ∷ history)
AllEnds Q (ends r) history = Q r history

ends_next : {R : Type 0} (Q : R → List (Op × ℕ) → Type 0) (script : Script R)
    (found : ℕ) (heard history : List (Op × ℕ)) → AllEnds Q script (heard ++ history) →
    AllEnds Q (rest_after script found) ((op_with script found ++ heard) ++ history)
ends_next Q (asks op next) found heard history each = each found
ends_next Q (ends r) found heard history each = each

pub ends_after : {R : Type 0} (Q : R → List (Op × ℕ) → Type 0) (script : Script R)
    (history : List (Op × ℕ)) (answers : List ℕ) → AllEnds Q script history →
    AllEnds Q (rest script answers) (heard_in script answers ++ history)
ends_after Q script history [] each = each
ends_after Q script history (found ∷ earlier) each = ends_next Q (rest script earlier) found
    (heard_in script earlier) history (ends_after Q script history earlier each)

-- the root was heard, and word 0 after it
abbrev pub heard_root : LayoutData → ℕ → List (Op × ℕ)
heard_root y root = (Load (number_of y (Node 1)), root) ∷ []

abbrev pub heard_both : LayoutData → ℕ → ℕ → List (Op × ℕ)
heard_both y root u = (Load (number_of y Conflict), u) ∷ heard_root y root

-- the newest answer, if it is a root, is a phase of the form
abbrev pub NewestPhase : LayoutData → List (Op × ℕ) → Type 0
NewestPhase y [] = Unit {0}
NewestPhase y (e ∷ es) = HearsPhase y e.0 e.1

-- the last phase of a step is one of each form
third_formed : (form : Form) (root : ℕ) → root % 3 ≡ 0 → IsTrue (has_phase form root)
third_formed Compact root e = refl
third_formed (Wide g) root e =
    let other : root % 3 ≡ 2 → ⊥ = λ k. absurd (omega (arith, e, k)) in
    rw (ne_eqb (root % 3) 2 other) refl

-- a begin ends so at node n
pub record BeginsTurn (job : JobData) (y : LayoutData) (n m q : ℕ)
    (history : List (Op × ℕ)) : Type 0 where
  pub node : m ≡ n
  pub root : ℕ
  pub phase : q ≡ next_phase y.form root
  pub is : IsTrue (has_phase y.form root) → history ≡ phase_begun y (doing.Turn q)
  pub formed : NewestPhase y history → IsTrue (has_phase y.form root)
  pub less : root ≢ 3 * job.steps
  pub admitted : AllAdmitted job y history → HearsAdmitted job y (Load (number_of y (Node 1))) root

abbrev pub BeginEnds : JobData → LayoutData → ℕ → Then → List (Op × ℕ) → Type 0
BeginEnds job y n (begins m) history = ⊥
BeginEnds job y n (turns m q) history = BeginsTurn job y n m q history
BeginEnds job y n (enters m q) history = ⊥
BeginEnds job y n (worked m q rank memo) history = ⊥
BeginEnds job y n (stops ended.Done) history = history ≡ heard_both y (3 * job.steps) 0
BeginEnds job y n (stops (ended.Conflict u)) history =
    (u ≢ 0) × ((root : ℕ) × (history ≡ heard_both y root u))

-- what was heard of the root, and of word 0 where the root ends a step
abbrev begun_from : LayoutData → ℕ → List (Op × ℕ)
begun_from y root =
    (if root % 3 == 0 then (Load (number_of y Conflict), 0) ∷ [] else []) ++ heard_root y root

begun_next : (y : LayoutData) (root : ℕ) → IsTrue (has_phase y.form root) →
    begun_from y root ≡ phase_begun y (doing.Turn (next_phase y.form root))
begun_next y root is = ap (begun_from y) (sym (before_next y.form root is))

begun_none : (y : LayoutData) (root : ℕ) → IsTrue (has_phase y.form root) → root % 3 ≡ 0 →
    heard_both y root 0 ≡ phase_begun y (doing.Turn (next_phase y.form root))
begun_none y root is e =
    let both : heard_both y root 0 ≡ begun_from y root = rw (eq-eqb (root % 3) 0 e) refl in
    both ∙ begun_next y root is

begun_some : (y : LayoutData) (root : ℕ) → IsTrue (has_phase y.form root) → root % 3 ≢ 0 →
    heard_root y root ≡ phase_begun y (doing.Turn (next_phase y.form root))
begun_some y root is n =
    let one : heard_root y root ≡ begun_from y root = rw (ne_eqb (root % 3) 0 n) refl in
    one ∙ begun_next y root is

pub begin_ends : (job : JobData) (y : LayoutData) (n : ℕ) →
    AllEnds (BeginEnds job y n) (begin_script job y n) []
unfolding begin_script
begin_ends job y n = λ root. cond_both (root % 3 == 0) _ _
    (λ (s : Script Then). AllEnds (BeginEnds job y n) s (heard_root y root))
    (λ third u. cond_both (u == 0) _ _
    (λ (s : Script Then). AllEnds (BeginEnds job y n) s (heard_both y root u))
    (λ none. cond_both (root == 3 * job.steps) _ _
    (λ (s : Script Then). AllEnds (BeginEnds job y n) s (heard_both y root u))
    (λ full. let a = eqb-true u 0 none in
    let b = eqb-true root (3 * job.steps) full in
    subst (λ (v : ℕ). heard_both y root v ≡ heard_both y (3 * job.steps) 0) (sym a)
    (ap (λ (v : ℕ). heard_both y v 0) b))
    (λ part. record {
      node = refl;
      root = root;
      phase = refl;
      is = λ formed. subst (λ (v : ℕ).
          heard_both y root v ≡ phase_begun y (doing.Turn (next_phase y.form root)))
          (sym (eqb-true u 0 none)) (begun_none y root formed (eqb-true (root % 3) 0 third));
      formed = λ newest. third_formed y.form root (eqb-true (root % 3) 0 third);
      less = eqb-false root (3 * job.steps) part;
      admitted = λ all. all.1.0;
    }))
    (λ some. (eqb-false u 0 some, (root, refl))))
    (λ other. let h = eqb-false (root % 3) 0 other in record {
      node = refl;
      root = root;
      phase = refl;
      is = λ formed. begun_some y root formed h;
      formed = λ newest. newest refl;
      less = λ e. h (omega arith);
      admitted = λ all. all.0;
    })

-- the task of the processor of this rank is done, in the block of node n, in the wide form
pub record InBlock (y : LayoutData) (n q due m p done : ℕ) : Type 0 where
  pub node : m ≡ n
  pub phase : p ≡ q
  pub rank : done ≡ due
  pub there : IsTrue (has_rank y n due)
  pub wide : IsWide y.form

-- in the block of node n in phase q, at the processor of this rank or at its end
abbrev pub InPart : LayoutData → ℕ → ℕ → ℕ → Then → Type 0
InPart y n q due (begins m) = ⊥
InPart y n q due (turns m p) = (p ≡ q) × (m ≡ n)
InPart y n q due (enters m p) = ⊥
InPart y n q due (worked m p rank memo) = InBlock y n q due m p rank
InPart y n q due (stops e) = ⊥

-- a turn at node n in phase q
abbrev pub InTurn : LayoutData → ℕ → ℕ → Then → Type 0
InTurn y n q (begins m) = m ≡ 1
InTurn y n q (turns m p) = (p ≡ q) × (1 ≤ n → n < 2 * y.leaves → (1 ≤ m) × (m < 2 * y.leaves))
InTurn y n q (enters m p) = (y.leaves ≤ n) × (m ≡ n) × (p ≡ q) × IsWide y.form
InTurn y n q (worked m p rank memo) = ⊥
InTurn y n q (stops e) = ⊥

-- the lemma on tasks of the own-step bound serves for this too
ends_within : (Q : Then → List (Op × ℕ) → Type 0) →
    IsWithin (λ k script. (history : List (Op × ℕ)) → AllEnds Q script history)
ends_within Q = record {
  step = λ j k op next h each history found. each found ((op, found) ∷ history);
  more = λ j k script h all. all;
}

-- the child that is gone to is a node
pub way_inside : (y : LayoutData) (w n q l r : ℕ) → 1 ≤ n → n < y.leaves →
    (1 ≤ way_down y w n q l r) × (way_down y w n q l r < 2 * y.leaves)
way_inside y w n q l r low high =
    let Inside : ℕ → Type 0 = λ m. (1 ≤ m) × (m < 2 * y.leaves) in
    cond_both (nat_le q l) (2 * n + 1) _ Inside (λ e. (omega arith, omega arith))
    (λ e. cond_both (nat_le q r) (2 * n) _ Inside (λ e. (omega arith, omega arith)) (λ e.
    cond_both (turns_right_in y w n) (2 * n + 1) (2 * n) Inside (λ e. (omega arith, omega arith))
    (λ e. (omega arith, omega arith))))

-- what holds of the end of a task in the wide form
pub part_ends : (Q : Then → Type 0) (job : JobData) (y : LayoutData) (n q rank : ℕ) (memo : Memo)
    (history : List (Op × ℕ)) → (y.form ≡ Compact → Q (turns n q)) →
    (IsWide y.form → (m : Memo) → Q (worked n q rank m)) →
    AllEnds (λ r h. Q r) (part_script job y n q rank memo) history
unfolding part_script
part_ends Q job y n q rank memo history compact wide =
    form_within (λ k script. (longer : List (Op × ℕ)) → AllEnds (λ r h. Q r) script longer)
    (ends_within (λ r h. Q r)) y 0 y.form job.rule
    (kind_at q) job (step_at q) (processor_at y n rank) memo (after_part y n q rank)
    (λ m longer. form_cases y.form (marks_node y n q q) (ends (worked n q rank m))
    (λ s. AllEnds (λ r h. Q r) s longer) (λ is. λ found. compact is) (λ is. wide is m)) history

-- what a node's mark comes to, the swap before it having been made or not
pub raise_ends : (Q : Then → Type 0) (y : LayoutData) (n m reach q : ℕ)
    (history : List (Op × ℕ)) → Q (turns n q) →
    AllEnds (λ r h. Q r) (jumps_first y n q reach (marks_node y n m q)) history
raise_ends Q y n m reach q history is = cond_both (jumps y n q reach) _ _
    (λ s. AllEnds (λ r h. Q r) s history) (λ _. λ swapped found. is) (λ _. λ found. is)

abbrev pub TurnEnds : LayoutData → ℕ → ℕ → List (Op × ℕ) → Script Then → Type 0
TurnEnds y n q history script = AllEnds (λ r h. InTurn y n q r) script history

pub turn_ends : (job : JobData) (y : LayoutData) (w n q : ℕ) (history : List (Op × ℕ)) →
    TurnEnds y n q history (turn_script job y w n q)
unfolding turn_script
turn_ends job y w n q history = λ found.
    cond_both (nat_le q found) _ _
    (TurnEnds y n q ((Load (number_of y (Node n)), found) ∷ history))
    (λ e. cond_both (n == 1) _ _
    (TurnEnds y n q ((Load (number_of y (Node n)), found) ∷ history)) (λ e. refl)
    (λ e. λ stored. (refl, λ low high. let h = eqb-false n 1 e in (omega arith, omega arith))))
    (λ e. cond_both (nat_le y.leaves n) _ _
    (TurnEnds y n q ((Load (number_of y (Node n)), found) ∷ history))
    (λ e. cond_both (has_rank y n 0) _ _
    (TurnEnds y n q ((Load (number_of y (Node n)), found) ∷ history))
    (λ there. form_cases y.form (part_script job y n q 0 at_start) (ends (enters n q))
    (TurnEnds y n q ((Load (number_of y (Node n)), found) ∷ history))
    (λ is. part_ends (InTurn y n q) job y n q 0 at_start
    ((Load (number_of y (Node n)), found) ∷ history) (λ c. (refl, λ low high. (low, high)))
    (λ w. absurd (not_both y.form is w)))
    (λ is. (leb-true y.leaves n e, refl, refl, is)))
    (λ none. λ f. (refl, λ low high. (low, high))))
    (λ e. λ l r. cond_both (nat_le q l && nat_le q r) _ _ (TurnEnds y n q ((
      Load (number_of y (Node (2 * n + 1))),
      r,
    ) ∷ (Load (number_of y (Node (2 * n))), l) ∷ (Load (number_of y (Node n)), found) ∷ history))
    (λ g. raise_ends (InTurn y n q) y n (inner_mark y n q l r) (min l r) q _
    (refl, λ low high. (low, high)))
    (λ g. λ f. (refl, λ low high. way_inside y w n q l r low (leb-false y.leaves n e)))))

-- ---- the script of any worker

abbrev pub BackEnds : JobData → LayoutData → ℕ → Then → List (Op × ℕ) → Type 0
BackEnds job y number (begins m) history =
    AllAdmitted job y history → HearsAdmitted job y (Load (number_of y (Position number))) m
BackEnds job y number _ history = ⊥

abbrev pub Brings : JobData → LayoutData → ℕ → ℕ → Doing → Then → List (Op × ℕ) → Type 0
Brings job y number n doing.Back r history = BackEnds job y number r history
Brings job y number n doing.Begin r history = BeginEnds job y n r history
Brings job y number n (doing.Turn q) r history = InTurn y n q r
Brings job y number n (doing.Part q rank) r history = InPart y n q rank r
Brings job y number n (doing.Over e) r history = BeginEnds job y n r history

block_ends : (job : JobData) (y : LayoutData) (n q rank : ℕ) (memory : List Memo)
    (history : List (Op × ℕ)) → IsWide y.form →
    AllEnds (λ r h. InPart y n q rank r) (block_script job y n q rank memory) history
block_ends job y n q rank memory history wide =
    cond_both (has_rank y n rank) _ _ (λ s. AllEnds (λ r h. InPart y n q rank r) s history)
    (λ there. part_ends (InPart y n q rank) job y n q rank _ history
    (λ compact. absurd (not_both y.form compact wide))
    (λ w m. record { node = refl; phase = refl; rank = refl; there = there; wide = w }))
    (λ none. raise_ends (InPart y n q rank) y n (block_mark job y n q memory)
    (block_reach job y n q memory) q history (refl, refl))

pub script_ends : (job : JobData) (y : LayoutData) (number n : ℕ) (memory : List Memo) (d : Doing) →
    IsInBlock y n d →
    AllEnds (Brings job y number n d) (script_by job y number n memory d) (phase_begun y d)
script_ends job y number n memory doing.Back block = λ found all. all.0
script_ends job y number n memory doing.Begin block = begin_ends job y n
script_ends job y number n memory (doing.Turn q) block =
    turn_ends job y number n q (phase_begun y (doing.Turn q))
script_ends job y number n memory (doing.Part q rank) block =
    block_ends job y n q rank memory (begun_phase y q) block.2
script_ends job y number n memory (doing.Over e) block = begin_ends job y n

pub worker_ends : (job : JobData) (y : LayoutData) (w : Walking) →
    IsInBlock y (node_of y w) w.now →
    AllEnds (Brings job y w.number (node_of y w) w.now) (rest_of job y w) (heard_of job y w)
worker_ends job y w block =
    ends_after (Brings job y w.number (node_of y w) w.now) (script_of job y w)
    (phase_begun y w.now) w.heard (script_ends job y w.number (node_of y w) w.memory w.now block)
