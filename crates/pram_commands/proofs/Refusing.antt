-- A command that follows a plan, where the text is refused and nothing was read of the plan.
use Rattle.std.proofs.Common.{◌≡◌, ℕ, List, [], Option, Some, Err, IsTrue, inl, refl}
use Rattle.std.proofs.Common.{subst, sym}
use Rattle.std.specs.Prelude.{◌↔◌, IsErrOf, MatchOption, ⊤}
use Rattle.pram_step.specs.declared.answer.RunAnswer.{RunAnswer}
use Rattle.pram_streams.specs.Transfer.{Gives, GivesSome}
use Rattle.naming.specs.BadTexts.{IsBadOrMemory}
use Rattle.naming.specs.Writing.{Writing}
use Rattle.refusals.specs.declared.fault.CommandFault.{CommandFault}
use Rattle.refusals.specs.declared.fault.CommandFault.TheVariants.{Text, Program, Plan}
use Rattle.refusals.specs.declared.fault.CommandFault.TheVariants.{OutsideCell, JobDevice}
use Rattle.refusals.specs.declared.fault.CommandFault.TheVariants.{OutsidePlace, OutsideStep}
use Rattle.refusals.specs.declared.fault.CommandFault.TheVariants.{PlanDevice, OutDevice}
use Rattle.refusals.specs.declared.fault.CommandFault.TheVariants.{JobTooLarge, PlanTooLarge}
use Rattle.refusals.specs.declared.fault.CommandFault.TheVariants.{Memory}
use Rattle.pram_commands.specs.Did.{Command, Did, Explains, Wrote}
use Rattle.pram_commands.specs.Inputs.{ExplainsJob, Taking}
use Rattle.pram_commands.proofs.Doing.{err_same}

-- a fault of a text, or of memory, explains why there is no job
pub explains_text : (source source' : Option (List ℕ)) (text : List ℕ) (fault : CommandFault) →
    Gives source source' text → IsBadOrMemory text fault → ExplainsJob source source' fault
explains_text source source' text (Text line kind) gives bad =
    record { text = text; gives = gives; is = bad }
explains_text source source' text (Program refusal) gives bad =
    record { text = text; gives = gives; is = bad }
explains_text source source' text (Plan row kind) gives bad = absurd bad
explains_text source source' text (OutsideCell cell) gives bad = absurd bad
explains_text source source' text (OutsidePlace at) gives bad = absurd bad
explains_text source source' text (OutsideStep step) gives bad = absurd bad
explains_text source source' text JobDevice gives bad = absurd bad
explains_text source source' text PlanDevice gives bad = absurd bad
explains_text source source' text OutDevice gives bad = absurd bad
explains_text source source' text JobTooLarge gives bad = absurd bad
explains_text source source' text PlanTooLarge gives bad = absurd bad
explains_text source source' text Memory gives bad = tt

-- a fault of a text is none of its device
pub not_device : {A : Type 0} (text : List ℕ) (fault : CommandFault) → IsBadOrMemory text fault →
    IsErrOf {T = A} (Err fault) JobDevice → ⊥
not_device text fault bad is = subst (IsBadOrMemory text) (err_same fault JobDevice is) bad

-- a source without bytes gave all that it had
pub gives_empty : (source : Option (List ℕ)) → source ≡ Some [] → Gives source source []
gives_empty source is = subst (λ (s : Option (List ℕ)). Gives s s []) (sym is) (refl, refl)

-- it is none of another device
pub no_device_of : {A : Type 0} (source source' : Option (List ℕ)) (fault : CommandFault) →
    ExplainsJob source source' fault →
    (IsErrOf {T = A} (Err fault) PlanDevice → ⊥) × (IsErrOf {T = A} (Err fault) OutDevice → ⊥)
no_device_of source source' (Text line kind) explains = (λ e. cc e, λ e. cc e)
no_device_of source source' (Program refusal) explains = (λ e. cc e, λ e. cc e)
no_device_of source source' (Plan row kind) explains = absurd explains
no_device_of source source' (OutsideCell cell) explains = absurd explains
no_device_of source source' (OutsidePlace at) explains = absurd explains
no_device_of source source' (OutsideStep step) explains = absurd explains
no_device_of source source' JobDevice explains = (λ e. cc e, λ e. cc e)
no_device_of source source' PlanDevice explains = absurd explains
no_device_of source source' OutDevice explains = absurd explains
no_device_of source source' JobTooLarge explains = (λ e. cc e, λ e. cc e)
no_device_of source source' PlanTooLarge explains = absurd explains
no_device_of source source' Memory explains = (λ e. cc e, λ e. cc e)

module _ {A : Type 0} (command : Command) (taken : Taking) (w : Writing)
    (Tells : A → Option RunAnswer → Type 0) where
  explains_so : (fault : CommandFault) → ExplainsJob taken.reads.job taken.reads.job' fault →
      (IsTrue taken.reads.job_failed ↔ IsErrOf {T = A} (Err fault) JobDevice) →
      Explains command taken.reads w fault
  explains_so (Text line kind) explains failed = explains
  explains_so (Program refusal) explains failed = explains
  explains_so (Plan row kind) explains failed = absurd explains
  explains_so (OutsideCell cell) explains failed = absurd explains
  explains_so (OutsidePlace at) explains failed = absurd explains
  explains_so (OutsideStep step) explains failed = absurd explains
  explains_so JobDevice explains failed = failed.1 refl
  explains_so PlanDevice explains failed = absurd explains
  explains_so OutDevice explains failed = absurd explains
  explains_so JobTooLarge explains failed = explains
  explains_so PlanTooLarge explains failed = absurd explains
  explains_so Memory explains failed = tt

  wrote_so : (fault : CommandFault) → ExplainsJob taken.reads.job taken.reads.job' fault →
      w.Unwritten → Wrote command taken.reads w fault
  wrote_so (Text line kind) explains none = none
  wrote_so (Program refusal) explains none = none
  wrote_so (Plan row kind) explains none = none
  wrote_so (OutsideCell cell) explains none = none
  wrote_so (OutsidePlace at) explains none = none
  wrote_so (OutsideStep step) explains none = none
  wrote_so JobDevice explains none = none
  wrote_so PlanDevice explains none = none
  wrote_so OutDevice explains none = absurd explains
  wrote_so JobTooLarge explains none = none
  wrote_so PlanTooLarge explains none = none
  wrote_so Memory explains none = inl none

  pub refused_did : (fault : CommandFault) →
      ExplainsJob taken.reads.job taken.reads.job' fault → taken.Unread →
      MatchOption command.workers taken.Unread (λ _. ⊤) →
      (IsTrue taken.reads.job_failed ↔ IsErrOf {T = A} (Err fault) JobDevice) →
      (IsTrue taken.reads.plan_failed → ⊥) → w.Unwritten → (IsTrue w.failed → ⊥) →
      GivesSome taken.reads.job taken.reads.job' → GivesSome taken.reads.plan taken.reads.plan' →
      Did command taken w Tells (Err fault)
  refused_did fault explains unread alone failed plan none well job_reads plan_reads =
      let others = no_device_of {A = A} taken.reads.job taken.reads.job' fault explains in record {
        done = tt;
        explains = explains_so fault explains failed;
        wrote = wrote_so fault explains none;
        job_first = λ _. unread;
        alone = alone;
        job_failed = failed;
        plan_failed = ((λ f. absurd (plan f)), (λ e. absurd (others.0 e)));
        out_failed = ((λ f. absurd (well f)), (λ e. absurd (others.1 e)));
        job_reads = job_reads;
        plan_reads = plan_reads;
      }
