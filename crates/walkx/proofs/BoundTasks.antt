-- How many operations the tasks of the compact form have before what follows them.
use Rattle.std.proofs.Common.{ℕ, ◌+◌, ◌-◌, ◌*◌, ◌≤◌, Bool, ◌||◌, ◌==◌, nat_lt, if◌then◌else◌}
use Rattle.std.proofs.Common.{List, [], ◌∷◌, ◌++◌, length, slice_get, Option, Some, None, arith}
use Rattle.std.proofs.lemmas.Bool.{cond_both}
use Rattle.pram_job.specs.declared.instr.Instr.{Instr}
use Rattle.pram_job.specs.declared.instr.Operands.{Operands}
use Rattle.pram_job.specs.declared.instr.Operands.TheVariants.{Bare, Target, TargetNumber}
use Rattle.std.proofs.lemmas.List.{length-append}
use Rattle.pram_job.specs.declared.instr.Operand.{Operand}
use Rattle.pram_job.specs.declared.instr.Operand.TheVariants.{Register, Number}
use Rattle.pram_job.specs.declared.instr.Operands.TheVariants.{TargetPlace, TargetTwo, PlaceValue}
use Rattle.pram_job.specs.declared.instr.Operands.TheVariants.{RegisterIndex, Index}
use Rattle.pram_job.specs.Instructions.{row_of}
use Rattle.pram_job.specs.declared.instr.Rule.{Rule}
use Rattle.pram_job.specs.declared.instr.Rule.TheVariants.{Common, Priority, Crew}
use Rattle.pram_job.specs.Job.{JobData}
use Rattle.pram_machine.specs.declared.requests.Request.{Request}
use Rattle.pram_machine.specs.Instructions.{registers_in, index_of, read_by, sources_of, goes_to}
use Rattle.pram_words.specs.declared.phases.Kind.{Kind}
use Rattle.pram_words.specs.declared.phases.Kind.TheVariants.{Compute, Apply, Verify}
use Rattle.pram_words.specs.declared.words.Word.TheVariants.{Claim}
use Rattle.pram_words.specs.Stamps.{stamp_of, payload_of}
use Rattle.pram_words.specs.Words.{LayoutData, number_of}
use Rattle.walkx.specs.declared.operation.Op.{Op}
use Rattle.walkx.specs.declared.operation.Op.TheVariants.{Load}
use Rattle.walkx.specs.Scripts.{Script, asks}
use Rattle.walkx.specs.Tasks.{loads_both, reads_place, writes_place, reads_registers, reads_cell}
use Rattle.walkx.specs.Tasks.{claim_of, differs, raises_request, executes, compute_task, hears_part}
use Rattle.walkx.specs.Tasks.{claims, carries, apply_task, crew_apply_task, reports, verify_task}
use Rattle.walkx.specs.Tasks.{crew_verify_task, claim_task, priority_apply_task, task_of}

-- What is said of a script and of a number of operations that it may have: it holds with more, and
-- one operation takes one.
pub record IsWithin {R : Type 0} (G : ℕ → Script R → Type 0) : Type 0 where
  pub step : (j k : ℕ) (op : Op) (next : ℕ → Script R) → k + 1 ≤ j →
      ((found : ℕ) → G k (next found)) → G j (asks op next)
  pub more : (j k : ℕ) (script : Script R) → k ≤ j → G k script → G j script

pub one_of : {R : Type 0} (G : ℕ → Script R → Type 0) (k : ℕ) (b : Bool) (s t : Script R) → G k s →
    G k t → G k (if b then s else t)
one_of G k b s t p q = cond_both b s t (G k) (λ _. p) (λ _. q)

pub loads_both_within : {R : Type 0} (G : ℕ → Script R → Type 0) →
    IsWithin G → (k : ℕ) (y : LayoutData) (p : ℕ) (next : ℕ → ℕ → Script R) →
    ((a b : ℕ) → G k (next a b)) → G (k + 2) (loads_both y p next)
loads_both_within G is k y p next each =
    is.step (k + 2) (k + 1) _ _ (omega arith)
    (λ a. is.step (k + 1) k _ _ (omega arith) (λ b. each a b))

pub reads_place_within : {R : Type 0} (G : ℕ → Script R → Type 0) →
    IsWithin G → (k : ℕ) (y : LayoutData) (t p : ℕ) (after : Script R) (next : ℕ → Script R) →
    G k after → ((v : ℕ) → G k (next v)) → G (k + 2) (reads_place y t p after next)
reads_place_within G is k y t p after next late each =
    loads_both_within G is k y p _ (λ a b. one_of G k _ _ _ late (each _))

pub writes_place_within : {R : Type 0} (G : ℕ → Script R → Type 0) →
    IsWithin G → (k : ℕ) (y : LayoutData) (t p value : ℕ) (after : Script R) →
    G k after → G (k + 3) (writes_place y t p value after)
writes_place_within G is k y t p value after late =
    is.more (k + 3) (k + 1 + 2) _ (omega arith)
    (loads_both_within G is (k + 1) y p _
    (λ a b. one_of G (k + 1) _ _ _ (is.more (k + 1) k after (omega arith) late)
    (is.step (k + 1) k _ _ (omega arith) (λ found. late))))

-- ---- the compute task

one_among : (operand : Operand) → length (registers_in operand) ≤ 1
one_among (Register r) = omega arith
one_among (Number n) = omega arith

pub few_among : (operands : Operands) → length (read_by operands) ≤ 2
few_among Bare = omega arith
few_among (Target r) = omega arith
few_among (TargetNumber r k) = omega arith
few_among (TargetPlace r place) = omega (arith, one_among (index_of place))
few_among (TargetTwo r a b) = omega (arith, one_among b)
few_among (PlaceValue place b) = omega (
  arith,
  length-append (registers_in (index_of place)) (registers_in b),
  one_among (index_of place),
  one_among b,
)
few_among (RegisterIndex r index) = omega arith
few_among (Index index) = omega arith

sources_few : (instr : Instr) → length (sources_of instr) ≤ 2
sources_few instr = few_among (row_of instr).1

pub reads_registers_within : {R : Type 0} (G : ℕ → Script R → Type 0) → IsWithin G →
    (j k : ℕ) (job : JobData) (y : LayoutData)
    (t i : ℕ) (rs values : List ℕ) (after : Script R) (next : List ℕ → Script R) →
    2 * length rs + k ≤ j → G k after → ((vs : List ℕ) → G k (next vs)) →
    G j (reads_registers job y t i rs values after next)
reads_registers_within G is j k job y t i [] values after next fits late each =
    is.more j k _ (omega arith) (each values)
reads_registers_within G is j k job y t i (r ∷ rs) values after next fits late each =
    is.more j (j - 2 + 2) _ (omega arith)
    (reads_place_within G is (j - 2) y t _ after _ (is.more (j - 2) k after (omega arith) late)
    (λ v. reads_registers_within G is (j - 2) k job y t i rs
    (values ++ v ∷ []) after next (omega arith) late each))

pub reads_cell_within : {R : Type 0} (G : ℕ → Script R → Type 0) → IsWithin G →
    (k : ℕ) (y : LayoutData) (t : ℕ) (c : Option ℕ) (after : Script R) (next : ℕ → Script R) →
    G k after → ((v : ℕ) → G k (next v)) → G (k + 2) (reads_cell y t c after next)
reads_cell_within G is k y t None after next late each = is.more (k + 2) k _ (omega arith) (each 0)
reads_cell_within G is k y t (Some c) after next late each =
    reads_place_within G is k y t c after next late each

raises_request_within : {R : Type 0} (G : ℕ → Script R → Type 0) →
    IsWithin G → (k : ℕ) (y : LayoutData) (t i : ℕ) (request : Request) (after : Script R) →
    G k after → G (k + 3) (raises_request y t i request after)
raises_request_within G is k y t i request after late =
    is.step (k + 3) (k + 2) _ _ (omega arith) (λ found. is.step (k + 2) (k + 1) _ _ (omega arith)
    (λ found. is.step (k + 1) k _ _ (omega arith) (λ found. late)))

executes_within : {R : Type 0} (G : ℕ → Script R → Type 0) → IsWithin G → (k : ℕ) (job : JobData)
    (y : LayoutData) (t i counter : ℕ) (instr : Option Instr) (after : Script R) →
    G k after → G (k + 9) (executes job y t i counter instr after)
executes_within G is k job y t i counter None after late = is.more (k + 9) (k + 3) _ (omega arith)
    (raises_request_within G is k y t i (goes_to counter) after late)
executes_within G is k job y t i counter (Some instr) after late =
    let few = sources_few instr in
    reads_registers_within G is (k + 9) (k + 3 + 2) job y t i
    (sources_of instr) [] after _ (omega arith) (is.more (k + 3 + 2) k after (omega arith) late)
    (λ values. reads_cell_within G is (k + 3) y t _ after _ (is.more (k + 3) k after
    (omega arith) late) (λ v. raises_request_within G is k y t i _ after late))

compute_within : {R : Type 0} (G : ℕ → Script R → Type 0) →
    IsWithin G → (k : ℕ) (job : JobData) (y : LayoutData) (t i : ℕ) (after : Script R) →
    G k after → G (k + 11) (compute_task job y t i after)
unfolding compute_task
compute_within G is k job y t i after late =
    is.more (k + 11) (k + 9 + 2) _ (omega arith)
    (reads_place_within G is (k + 9) y t _ after _ (is.more (k + 9) k after (omega arith) late)
    (λ counter. executes_within G is k job y t i counter (slice_get job.code counter) after late))

-- ---- the other tasks

hears_part_within : {R : Type 0} (G : ℕ → Script R → Type 0) →
    IsWithin G → (k : ℕ) (y : LayoutData) (t i j : ℕ) (after : Script R) (next : ℕ → Script R) →
    G k after → ((v : ℕ) → G k (next v)) → G (k + 1) (hears_part y t i j after next)
hears_part_within G is k y t i j after next late each =
    is.step (k + 1) k _ _ (omega arith) (λ found. one_of G k _ _ _ (each _) late)

-- the first three parts of a request
hears_all_within : {R : Type 0} (G : ℕ → Script R → Type 0) → IsWithin G →
    (k : ℕ) (y : LayoutData) (t i : ℕ) (after : Script R) (next : ℕ → ℕ → ℕ → Script R) →
    G k after → ((a b c : ℕ) → G k (next a b c)) →
    G (k + 1 + 1 + 1) (hears_part y t i 0 after
    (λ a. hears_part y t i 1 after (λ b. hears_part y t i 2 after (next a b))))
hears_all_within G is k y t i after next late each =
    hears_part_within G is (k + 1 + 1) y t i 0 after _
    (is.more (k + 1 + 1) k after (omega arith) late) (λ a.
    hears_part_within G is (k + 1) y t i 1 after _ (is.more (k + 1) k after (omega arith) late)
    (λ b. hears_part_within G is k y t i 2 after _ late (λ c. each a b c)))

pub claims_within : {R : Type 0} (G : ℕ → Script R → Type 0) → IsWithin G →
    (k : ℕ) (job : JobData) (y : LayoutData) (t i p : ℕ) (after : Script R) →
    G k after → G (k + 1) (claims job y t i p after)
claims_within G is k job y t i p after late =
    one_of G (k + 1) _ _ _ (is.step (k + 1) k _ _ (omega arith) (λ found. late))
    (is.more (k + 1) k after (omega arith) late)

carries_within : {R : Type 0} (G : ℕ → Script R → Type 0) → IsWithin G →
    (k : ℕ) (job : JobData) (y : LayoutData) (t i place value next : ℕ) (after : Script R) →
    G k after → G (k + 3 + 3) (carries job y t i place value next after)
carries_within G is k job y t i place value next after late =
    let counter = writes_place_within G is k y t _ next after late in
    one_of G (k + 3 + 3) _ _ _ (is.more (k + 3 + 3) (k + 3) _ (omega arith) counter)
    (writes_place_within G is (k + 3) y t _ value _ counter)

apply_within : {R : Type 0} (G : ℕ → Script R → Type 0) →
    IsWithin G → (k : ℕ) (job : JobData) (y : LayoutData) (t i : ℕ) (after : Script R) →
    G k after → G (k + 11) (apply_task job y t i after)
unfolding apply_task
apply_within G is k job y t i after late =
    is.more (k + 11) (k + 3 + 3 + 1 + 1 + 1) _ (omega arith)
    (hears_all_within G is (k + 3 + 3) y t i after _
    (is.more (k + 3 + 3) k after (omega arith) late)
    (λ place value next. carries_within G is k job y t i place value next after late))

crew_apply_within : {R : Type 0} (G : ℕ → Script R → Type 0) →
    IsWithin G → (k : ℕ) (job : JobData) (y : LayoutData) (t i : ℕ) (after : Script R) →
    G k after → G (k + 11) (crew_apply_task job y t i after)
unfolding crew_apply_task
crew_apply_within G is k job y t i after late =
    is.more (k + 11) (k + 3 + 3 + 1 + 1 + 1 + 1) _ (omega arith)
    (hears_all_within G is (k + 3 + 3 + 1) y t i after _
    (is.more (k + 3 + 3 + 1) k after (omega arith) late)
    (λ place value next.
    let carried = carries_within G is k job y t i place value next after late in
    one_of G (k + 3 + 3 + 1) (place == 0) _ _ (is.more (k + 3 + 3 + 1) (k + 3 + 3) _
    (omega arith) carried) (claims_within G is (k + 3 + 3) job y t i (place - 1) _ carried)))

pub reports_within : {R : Type 0} (G : ℕ → Script R → Type 0) →
    IsWithin G → (k : ℕ) (y : LayoutData) (t : ℕ) (b : Bool) (after : Script R) →
    G k after → G (k + 1) (if b then reports y t after else after)
reports_within G is k y t b after late =
    one_of G (k + 1) b _ _ (is.step (k + 1) k _ _ (omega arith) (λ found. late))
    (is.more (k + 1) k after (omega arith) late)

verify_within : {R : Type 0} (G : ℕ → Script R → Type 0) →
    IsWithin G → (k : ℕ) (job : JobData) (y : LayoutData) (t i : ℕ) (after : Script R) →
    G k after → G (k + 11) (verify_task job y t i after)
unfolding verify_task
verify_within G is k job y t i after late =
    let later = λ (j : ℕ) (h : k ≤ j). is.more j k after h late in
    is.more (k + 11) (k + 1 + 2 + 1 + 1) _ (omega arith)
    (hears_part_within G is (k + 1 + 2 + 1) y t i 0 after _ (later (k + 1 + 2 + 1) (omega arith))
    (λ place. one_of G (k + 1 + 2 + 1) (place == 0) _ _ (later (k + 1 + 2 + 1) (omega arith))
    (hears_part_within G is (k + 1 + 2) y t i 1 after _ (later (k + 1 + 2) (omega arith)) (λ value.
    loads_both_within G is (k + 1) y (place - 1) _
    (λ a b. reports_within G is k y t (differs t value a || differs t value b) after late)))))

crew_verify_within : {R : Type 0} (G : ℕ → Script R → Type 0) →
    IsWithin G → (k : ℕ) (job : JobData) (y : LayoutData) (t i : ℕ) (after : Script R) →
    G k after → G (k + 11) (crew_verify_task job y t i after)
unfolding crew_verify_task
crew_verify_within G is k job y t i after late =
    let later = λ (j : ℕ) (h : k ≤ j). is.more j k after h late in
    is.more (k + 11) (k + 1 + 1 + 1) _ (omega arith)
    (hears_part_within G is (k + 1 + 1) y t i 0 after _ (later (k + 1 + 1) (omega arith))
    (λ place. one_of G (k + 1 + 1) (place == 0) _ _ (later (k + 1 + 1) (omega arith))
    (one_of G (k + 1 + 1) (nat_lt (place - 1) job.cells) _ _
    (is.step (k + 1 + 1) (k + 1) (Load (number_of y (Claim (place - 1)))) _ (omega arith)
    (λ found. reports_within G is k y t (differs t (claim_of job i) found) after late))
    (later (k + 1 + 1) (omega arith)))))

claim_within : {R : Type 0} (G : ℕ → Script R → Type 0) →
    IsWithin G → (k : ℕ) (job : JobData) (y : LayoutData) (t i : ℕ) (after : Script R) →
    G k after → G (k + 11) (claim_task job y t i after)
unfolding claim_task
claim_within G is k job y t i after late =
    is.more (k + 11) (k + 1 + 1) _ (omega arith)
    (hears_part_within G is (k + 1) y t i 0 after _
    (is.more (k + 1) k after (omega arith) late) (λ place.
    one_of G (k + 1) (place == 0) _ _ (is.more (k + 1) k after (omega arith) late)
    (claims_within G is k job y t i (place - 1) after late)))

priority_apply_within : {R : Type 0} (G : ℕ → Script R → Type 0) →
    IsWithin G → (k : ℕ) (job : JobData) (y : LayoutData) (t i : ℕ) (after : Script R) →
    G k after → G (k + 11) (priority_apply_task job y t i after)
unfolding priority_apply_task
priority_apply_within G is k job y t i after late =
    is.more (k + 11) (k + 3 + 3 + 1 + 1 + 1 + 1) _ (omega arith)
    (hears_all_within G is (k + 3 + 3 + 1) y t i after _
    (is.more (k + 3 + 3 + 1) k after (omega arith) late)
    (λ place value next.
    let carried = λ (p : ℕ). carries_within G is k job y t i p value next after late in
    let more = λ (p : ℕ). is.more (k + 3 + 3 + 1) (k + 3 + 3) _ (omega arith) (carried p) in
    one_of G (k + 3 + 3 + 1) (place == 0) _ _ (more place)
    (one_of G (k + 3 + 3 + 1) (nat_lt (place - 1) job.cells) _ _
    (is.step (k + 3 + 3 + 1) (k + 3 + 3) (Load (number_of y (Claim (place - 1)))) _ (omega arith)
    (λ found. one_of G (k + 3 + 3) (nat_lt t (stamp_of found)) _ _ (is.more (k + 3 + 3) k after
    (omega arith) late) (carried (if payload_of found == claim_of job i then place else 0))))
    (more place))))

-- A task has at most eleven operations.
pub task_within : {R : Type 0} (G : ℕ → Script R → Type 0) → IsWithin G → (k : ℕ) (rule : Rule)
    (kind : Kind) (job : JobData) (y : LayoutData) (t i : ℕ) (after : Script R) →
    G k after → G (k + 11) (task_of rule kind job y t i after)
unfolding task_of
task_within G is k Common Compute = compute_within G is k
task_within G is k Common Apply = apply_within G is k
task_within G is k Common Verify = verify_within G is k
task_within G is k Priority Compute = compute_within G is k
task_within G is k Priority Apply = claim_within G is k
task_within G is k Priority Verify = priority_apply_within G is k
task_within G is k Crew Compute = compute_within G is k
task_within G is k Crew Apply = crew_apply_within G is k
task_within G is k Crew Verify = crew_verify_within G is k
