-- The task of a phase by the form of the board, and in the wide form by the rule.
use Rattle.std.proofs.Common.{◌≡◌, refl, sym}
use Rattle.pram_job.specs.declared.instr.Rule.{Rule}
use Rattle.pram_job.specs.declared.instr.Rule.TheVariants.{Common, Priority, Crew}
use Rattle.pram_words.specs.declared.layout.Form.{Form}
use Rattle.pram_words.specs.declared.layout.Form.TheVariants.{Compact}
use Rattle.pram_words.specs.declared.phases.Kind.{Kind}
use Rattle.pram_words.specs.declared.phases.Kind.TheVariants.{Compute, Apply, Verify}
use Rattle.pram_words.specs.Phases.{kind_at, phase_of}
use Rattle.walk_memory.specs.declared.memo.Memo.{Memo}
use Rattle.walk_memory.specs.Inner.Posts.{PostData, step_of, processor_of}
use Rattle.walkx.specs.Parts.{does_compact, does_wide_in}
use Rattle.walkx.specs.Passes.{task_in, wide_task_of, own_task, own_claim_task, carry_task}
use Rattle.walkx.specs.Passes.{crew_carry_task, priority_carry_task}
use Rattle.walkx.specs.Scripts.{Script}
use Rattle.walkx.specs.WideParts.{does_own, does_store}
use Rattle.walkx.specs.Walk.{Then}
use Rattle.walk_memory.proofs.Timing.{compute_is}

-- ---- by the form

abbrev does_formed : Form → PostData → Memo → (Memo → Script Then) → Script Then
does_formed f at = task_in f at.job.rule (kind_at at.phase) at.job at.layout (step_of at)
    (processor_of at)

pub in_compact : (at : PostData) (memo : Memo) (after : Memo → Script Then) (f : Form) →
    f ≡ Compact → does_formed f at memo after ≡ does_compact at (after memo)
unfolding task_in
in_compact at memo after f is = rw is refl

-- ---- in the wide form, by the kind and the rule

pub same_wide_kind : (at : PostData) (memo : Memo) (late : Script Then)
    (next : Memo → Script Then) (k l : Kind) → k ≡ l →
    does_wide_in k at memo late next ≡ does_wide_in l at memo late next
same_wide_kind at memo late next k l is = rw is refl

module _ (at : PostData) (memo : Memo) (late : Script Then) (next : Memo → Script Then) where
  abbrev does_by : Rule → Kind → Script Then
  does_by r k = wide_task_of r k at.job at.layout (step_of at) (processor_of at) memo next

  pub second_none : (r : Rule) → does_by r Apply ≡ next memo
  unfolding wide_task_of
  second_none Common = refl
  second_none Priority = refl
  second_none Crew = refl

  pub own_is : kind_at at.phase ≡ Compute →
      does_by at.job.rule Compute ≡ does_own at memo late next
  unfolding wide_task_of own_task own_claim_task
  own_is first = by at.job.rule refl
    where
      same : phase_of (step_of at) Compute ≡ at.phase
      same = sym (compute_is at.phase first)

      by : (r : Rule) → at.job.rule ≡ r → does_by at.job.rule Compute ≡ does_own at memo late next
      by Common e = rw (e, same) refl
      by Priority e = rw (e, same) refl
      by Crew e = rw (e, same) refl

  pub carry_is : does_by at.job.rule Verify ≡ does_store at memo late next
  unfolding wide_task_of carry_task priority_carry_task crew_carry_task
  carry_is = by at.job.rule refl
    where
      by : (r : Rule) → at.job.rule ≡ r → does_by at.job.rule Verify ≡ does_store at memo late next
      by Common e = rw e refl
      by Priority e = rw e refl
      by Crew e = rw e refl
