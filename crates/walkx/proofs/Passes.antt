-- The task of a pass, by the rule; a task that is the same as another one.
use Rattle.std.proofs.Common.{◌≡◌, ℕ, refl, sym, subst, Result}
use Rattle.pram_job.specs.declared.instr.Rule.{Rule}
use Rattle.pram_job.specs.declared.instr.Rule.TheVariants.{Common, Priority, Crew}
use Rattle.pram_words.specs.declared.phases.Kind.{Kind}
use Rattle.pram_words.specs.declared.phases.Kind.TheVariants.{Compute, Apply, Verify}
use Rattle.walkx.specs.declared.left.Left.{Left}
use Rattle.walkx.specs.Driving.{Standing, Part, IsDue, Ends, IsNextPart, Plays}
use Rattle.pram_job.specs.Job.{JobData}
use Rattle.pram_words.specs.Words.{LayoutData}
use Rattle.walk_memory.specs.Inner.Posts.{PostData, step_of, processor_of}
use Rattle.walkx.specs.Parts.{applies, claims_cell, compares, compares_claims, computes, does_in}
use Rattle.walkx.specs.Scripts.{Script}
use Rattle.walkx.specs.Tasks.{task_of, compute_task, apply_task, crew_apply_task}
use Rattle.walkx.specs.Tasks.{priority_apply_task, claim_task, verify_task, crew_verify_task}
use Rattle.walkx.specs.Walk.{Then}
use Rattle.walkx.proofs.Turning.{moved}

-- the task of a first pass is the same under each rule
task_computes : (job : JobData) (y : LayoutData) (t i : ℕ) (after : Script Then) (r : Rule) →
    task_of r Compute job y t i after ≡ compute_task job y t i after
unfolding task_of
task_computes job y t i after Common = refl
task_computes job y t i after Priority = refl
task_computes job y t i after Crew = refl

pub computes_it : (at : PostData) (after : Script Then) (k : Kind) → k ≡ Compute →
    does_in k at after ≡ computes at after
computes_it at after k is =
    rw is (task_computes at.job at.layout (step_of at) (processor_of at) after at.job.rule)

pub same_kind : (at : PostData) (after : Script Then) (k l : Kind) → k ≡ l →
    does_in k at after ≡ does_in l at after
same_kind at after k l is = rw is refl

second_common_is : (at : PostData) (after : Script Then) →
    task_of Common Apply at.job at.layout (step_of at) (processor_of at) after
    ≡ applies Common at after
unfolding task_of apply_task
second_common_is at after = refl

pub second_common : (at : PostData) (after : Script Then) (r : Rule) → r ≡ Common →
    task_of r Apply at.job at.layout (step_of at) (processor_of at) after ≡ applies r at after
second_common at after r is = subst (λ (x : Rule).
    task_of x Apply at.job at.layout (step_of at) (processor_of at) after ≡ applies x at after)
    (sym is) (second_common_is at after)

second_crew_is : (at : PostData) (after : Script Then) →
    task_of Crew Apply at.job at.layout (step_of at) (processor_of at) after ≡ applies Crew at after
unfolding task_of crew_apply_task
second_crew_is at after = refl

pub second_crew : (at : PostData) (after : Script Then) (r : Rule) → r ≡ Crew →
    task_of r Apply at.job at.layout (step_of at) (processor_of at) after ≡ applies r at after
second_crew at after r is = subst (λ (x : Rule).
    task_of x Apply at.job at.layout (step_of at) (processor_of at) after ≡ applies x at after)
    (sym is) (second_crew_is at after)

second_priority_is : (at : PostData) (after : Script Then) →
    task_of Priority Apply at.job at.layout (step_of at) (processor_of at) after
    ≡ claims_cell at after
unfolding task_of claim_task
second_priority_is at after = refl

pub second_priority : (at : PostData) (after : Script Then) (r : Rule) → r ≡ Priority →
    task_of r Apply at.job at.layout (step_of at) (processor_of at) after ≡ claims_cell at after
second_priority at after r is = subst (λ (x : Rule).
    task_of x Apply at.job at.layout (step_of at) (processor_of at) after ≡ claims_cell at after)
    (sym is) (second_priority_is at after)

third_priority_is : (at : PostData) (after : Script Then) →
    task_of Priority Verify at.job at.layout (step_of at) (processor_of at) after
    ≡ applies Priority at after
unfolding task_of priority_apply_task
third_priority_is at after = refl

pub third_priority : (at : PostData) (after : Script Then) (r : Rule) → r ≡ Priority →
    task_of r Verify at.job at.layout (step_of at) (processor_of at) after ≡ applies r at after
third_priority at after r is = subst (λ (x : Rule).
    task_of x Verify at.job at.layout (step_of at) (processor_of at) after ≡ applies x at after)
    (sym is) (third_priority_is at after)

third_common_is : (at : PostData) (after : Script Then) →
    task_of Common Verify at.job at.layout (step_of at) (processor_of at) after ≡ compares at after
unfolding task_of verify_task
third_common_is at after = refl

pub third_common : (at : PostData) (after : Script Then) (r : Rule) → r ≡ Common →
    task_of r Verify at.job at.layout (step_of at) (processor_of at) after ≡ compares at after
third_common at after r is = subst (λ (x : Rule).
    task_of x Verify at.job at.layout (step_of at) (processor_of at) after ≡ compares at after)
    (sym is) (third_common_is at after)

third_crew_is : (at : PostData) (after : Script Then) →
    task_of Crew Verify at.job at.layout (step_of at) (processor_of at) after
    ≡ compares_claims at after
unfolding task_of crew_verify_task
third_crew_is at after = refl

pub third_crew : (at : PostData) (after : Script Then) (r : Rule) → r ≡ Crew →
    task_of r Verify at.job at.layout (step_of at) (processor_of at) after
    ≡ compares_claims at after
third_crew at after r is = subst (λ (x : Rule). task_of x Verify at.job at.layout (step_of at)
    (processor_of at) after ≡ compares_claims at after) (sym is) (third_crew_is at after)

module _ {D : Type 0} (stands : Standing D) (d : D) (s t : Script Then → Script Then)
    (same : (after : Script Then) → s after ≡ t after) where
  pub due_as : IsDue stands d s → IsDue stands d t
  due_as due = record {
    from = due.from;
    after = due.after;
    here = moved stands due.from d (s due.after) (t due.after) (same due.after) due.here;
  }

  pub ends_as : (e : D) (r : Result (Unit {0}) Left) → Ends stands d t e r → Ends stands d s e r
  ends_as e r ends = record {
    on = λ from after here.
        ends.on from after (moved stands from d (s after) (t after) (same after) here);
  }

module _ {D A : Type 0} (stands : Standing D) (d : D) (s t : Part A)
    (same : (after : Script Then) (next : A → Script Then) → s after next ≡ t after next) where
  pub next_as : IsNextPart stands d s → IsNextPart stands d t
  next_as is = record {
    from = is.from;
    after = is.after;
    next = is.next;
    here = moved stands is.from d _ _ (same is.after is.next) is.here;
  }

  pub plays_as : (e : D) (r : Result A Left) → Plays stands d t e r → Plays stands d s e r
  plays_as e r plays = record {
    on = λ from after next here.
        plays.on from after next (moved stands from d _ _ (same after next) here);
  }
