-- A task of the compact form asks for something.
use Rattle.std.proofs.Common.{◌≡◌, ℕ, Some, refl}
use Rattle.std.proofs.lemmas.Bool.{cond_both}
use Rattle.pram_job.specs.Job.{JobData}
use Rattle.pram_job.specs.declared.instr.Rule.{Rule}
use Rattle.pram_job.specs.declared.instr.Rule.TheVariants.{Common, Priority, Crew}
use Rattle.pram_words.specs.declared.phases.Kind.{Kind}
use Rattle.pram_words.specs.declared.phases.Kind.TheVariants.{Compute, Apply, Verify}
use Rattle.pram_words.specs.Words.{LayoutData}
use Rattle.walkx.specs.declared.operation.Op.{Op}
use Rattle.walkx.specs.Scripts.{Script, first_op}
use Rattle.walkx.specs.Tasks.{compute_task, apply_task, verify_task, claim_task}
use Rattle.walkx.specs.Tasks.{priority_apply_task, crew_apply_task, crew_verify_task, task_of}
use Rattle.walkx.specs.Walk.{Then, jumps, jumps_first, marks_node}

pub task_first : (rule : Rule) (kind : Kind) (job : JobData) (y : LayoutData) (t i : ℕ)
    (after : Script Then) → (op : Op) × (first_op (task_of rule kind job y t i after) ≡ Some op)
unfolding task_of compute_task apply_task verify_task claim_task priority_apply_task
    crew_apply_task crew_verify_task
task_first Common Compute job y t i after = (_, refl)
task_first Common Apply job y t i after = (_, refl)
task_first Common Verify job y t i after = (_, refl)
task_first Priority Compute job y t i after = (_, refl)
task_first Priority Apply job y t i after = (_, refl)
task_first Priority Verify job y t i after = (_, refl)
task_first Crew Compute job y t i after = (_, refl)
task_first Crew Apply job y t i after = (_, refl)
task_first Crew Verify job y t i after = (_, refl)

pub mark_first : (y : LayoutData) (n m q : ℕ) →
    (op : Op) × (first_op (marks_node y n m q) ≡ Some op)
mark_first y n m q = (_, refl)

pub raise_first : (y : LayoutData) (n m reach q : ℕ) →
    (op : Op) × (first_op (jumps_first y n q reach (marks_node y n m q)) ≡ Some op)
raise_first y n m reach q = cond_both (jumps y n q reach) _ _
    (λ s. (op : Op) × (first_op s ≡ Some op)) (λ _. (_, refl)) (λ _. mark_first y n m q)
