-- What is known of one who is lost, and of two that clash.
use Rattle.std.proofs.Common.{◌≡◌, ◌∙◌, ℕ, ◌-◌, ◌<◌, ◌≤◌, Option, Some, None, ap, arith, subst, sym}
use Rattle.std.specs.Prelude.{slice_get}
use Rattle.pram_job.specs.declared.instr.Instr.{Instr}
use Rattle.pram_job.specs.declared.instr.Operands.{Operands}
use Rattle.pram_job.specs.Instructions.{row_of}
use Rattle.pram_machine.specs.Machine.{State}
use Rattle.pram_rows.specs.Causes.{cause_by, cause_in}
use Rattle.pram_rows.specs.declared.causes.Cause.{Cause}
use Rattle.pram_job.specs.Job.{JobData}
use Rattle.pram_step.specs.declared.answer.Fault.{Fault}
use Rattle.pram_step.specs.Runs.{IsFault, IsReached, state_after}
use Rattle.pram_step.proofs.LawFixed.{reached_down}
use Rattle.pram_step.proofs.LawPlaces.{writer_is}
use Rattle.pram_rows.specs.Fates.{AreFates, IsFirstLost, IsFirstLostOrNone, IsLostIn}
use Rattle.pram_rows.specs.declared.fates.Fates.{Fates}
use Rattle.pram_rows.specs.declared.fates.Lost.{Lost}

module _ (job : JobData) (n : ℕ) (fates : Fates) (lost : Lost) (are : AreFates job n fates)
    (is : fates.lost ≡ Some lost) where
  first : IsFirstLost job are.made lost
  first = subst (λ (o : Option Lost). IsFirstLostOrNone job are.made o) is are.lost_is

  -- its step is there, and those before it agree
  pub lost_some : 1 ≤ lost.step
  lost_some = let step = first.step_is in omega arith

  pub lost_reached : IsReached job (lost.step - 1)
  lost_reached =
      let step = first.step_is in
      let within = first.within in
      let e : first.before ≡ lost.step - 1 = omega arith in
      subst (IsReached job) e
      (reached_down job first.before are.made (omega arith) are.are_made.reached)

  pub lost_within : lost.processor < job.procs
  lost_within = first.first_is.names_none.within

-- the steps before that in which one is lost are reached
pub before_reached : (job : JobData) (n : ℕ) (lost : Lost) → IsReached job n →
    IsLostIn job n lost → IsReached job (lost.step - 1)
before_reached job n lost reached is =
    let step = is.step_is in
    let within = is.within in
    let e : is.before ≡ lost.step - 1 = omega arith in
    subst (IsReached job) e (reached_down job is.before n (omega arith) reached)

-- they are processors of the job
pub fault_known : (job : JobData) (fault : Fault) → IsFault job fault →
    (fault.first < job.procs) × (fault.second < job.procs) × IsReached job (fault.step - 1)
fault_known job fault is =
    let first = is.first in
    let step = first.step in
    let e : first.before ≡ fault.step - 1 = omega arith in
    let clash = first.dispute.clash in
    let state = state_after job first.before in (
      (writer_is job state fault.cell fault.first clash.value clash.writes.1).0,
      (writer_is job state fault.cell fault.second clash.other clash.writes_too.1).0,
      subst (IsReached job) e first.reached,
    )

-- the cause by the instruction of an index
pub cause_at : (job : JobData) (s : State) (i index : ℕ) (instr : Instr) (before : Option Instr)
    (operands : Operands) (found : Option Cause) → slice_get job.code index ≡ Some instr →
    before ≡ slice_get job.code (index - 1) → operands ≡ (row_of instr).1 →
    found ≡ cause_by job s i before operands → found ≡ cause_in job s i index
cause_at job s i index instr before operands found at is row by =
    by ∙ ap (λ (b : Option Instr). cause_by job s i b operands) is
    ∙ ap (λ (o : Operands). cause_by job s i (slice_get job.code (index - 1)) o) row
    ∙ sym (ap (λ (o : Option Instr). elim o as (λ (x : Option Instr). Option Cause) [
      | None ↦ None
      | Some one ↦ cause_by job s i (slice_get job.code (index - 1)) (row_of one).1
    ]) at)
