-- What answers jobs have in common that differ in their rule or their number of steps alone.
use Rattle.std.proofs.Common.{◌≡◌, ◌↔◌, ℕ, ◌≤◌, List, sym, subst, ◌∙◌, arith}
use Rattle.pram_job.specs.declared.instr.Rule.{Rule}
use Rattle.pram_job.specs.declared.instr.Rule.TheVariants.{Priority, Crew}
use Rattle.pram_job.specs.Job.{JobData}
use Rattle.pram_step.specs.declared.answer.Dispute.{Dispute}
use Rattle.pram_step.specs.declared.answer.Fault.{Fault}
use Rattle.pram_step.specs.declared.answer.RunAnswer.TheVariants.{Final, Conflict}
use Rattle.pram_machine.specs.declared.requests.Request.{Request}
use Rattle.pram_step.specs.Steps.{Agrees, IsDispute}
use Rattle.pram_step.specs.Disputes.{Forbids}
use Rattle.pram_step.specs.Runs.{state_after, requests_after, IsReached}
use Rattle.pram_step.specs.Runs.{IsStateAfter, dispute_of, IsFirstConflict, IsAnswer}
use Rattle.pram_machine.specs.Machine.{State}
use Rattle.pram_step.proofs.LawRules.{state_same, asked_same, writes_same, clash_same}
use Rattle.pram_step.proofs.LawRules.{crew_agrees, priority_agrees, steps_agree}

-- ---- rules

pub priority_never_clashes : (job : JobData) (requests : List Request) →
    job.rule ≡ Priority → Agrees job requests
priority_never_clashes job requests rule cell i j clash =
    subst (λ (r : Rule). Forbids r i clash.value j clash.other) rule clash.forbidden

crew_reached : (job : JobData) (r : Rule) (t : ℕ) → IsReached (record job { rule = Crew }) t →
    IsReached (record job { rule = r }) t
crew_reached job r t reached s lt = crew_agrees job r job.steps job.steps s (reached s lt)

priority_reached : (job : JobData) (t : ℕ) → IsReached (record job { rule = Priority }) t
priority_reached job t s lt = priority_agrees job job.steps s

rule_state : (job : JobData) (r : Rule) (t : ℕ) →
    state_after (record job { rule = r }) t ≡ state_after job t
rule_state job r t = state_same job r job.steps t

rules_alike : (job : JobData) (q r : Rule) (t : ℕ) →
    state_after (record job { rule = q }) t ≡ state_after (record job { rule = r }) t
rules_alike job q r t = rule_state job q t ∙ sym (rule_state job r t)

pub crew_state : (job : JobData) (r : Rule) (t : ℕ) (s : State) →
    IsStateAfter (record job { rule = Crew }) t s → IsStateAfter (record job { rule = r }) t s
crew_state job r t s is = record {
  reached = crew_reached job r t is.reached;
  state = is.state ∙ rules_alike job Crew r t;
}

pub priority_state : (job : JobData) (r : Rule) (t : ℕ) (s : State) →
    IsStateAfter (record job { rule = r }) t s → IsStateAfter (record job { rule = Priority }) t s
priority_state job r t s is =
    record { reached = priority_reached job t; state = is.state ∙ rules_alike job r Priority t }

-- what a job with rule crew ends with, it ends with under each rule
pub crew_answers : (job : JobData) (r : Rule) (cells : List ℕ) →
    IsAnswer (record job { rule = Crew }) (Final cells) →
    IsAnswer (record job { rule = r }) (Final cells)
crew_answers job r cells answer = (answer.0, crew_state job r job.steps answer.0 answer.1, answer.2)

-- what a job ends with under some rule, it ends with under priority
pub priority_answers :
    (job : JobData) (r : Rule) (cells : List ℕ) → IsAnswer (record job { rule = r }) (Final cells) →
    IsAnswer (record job { rule = Priority }) (Final cells)
priority_answers job r cells answer =
    (answer.0, priority_state job r job.steps answer.0 answer.1, answer.2)

-- ---- numbers of steps

steps_reached : (job : JobData) (n m t : ℕ) → IsReached (record job { steps = n }) t →
    IsReached (record job { steps = m }) t
steps_reached job n m t reached s lt = steps_agree job job.rule n m s (reached s lt)

steps_state : (job : JobData) (n t : ℕ) →
    state_after (record job { steps = n }) t ≡ state_after job t
steps_state job n t = state_same job job.rule n t

dispute_same : (job : JobData) (n m : ℕ) (requests : List Request) (d : Dispute) →
    IsDispute (record job { steps = n }) requests d →
    IsDispute (record job { steps = m }) requests d
dispute_same job n m requests d is = record {
  clash = clash_same job job.rule n m requests d.cell d.first d.second is.clash;
  least_cell = λ cell i j clash.
      is.least_cell cell i j (clash_same job job.rule m n requests cell i j clash);
  least_first =
      λ i v w. is.least_first i v
      (w.0, writes_same job job.rule job.rule m n requests d.cell i v w.1);
  least_second =
      λ j clash. is.least_second j (clash_same job job.rule m n requests d.cell d.first j clash);
}

steps_conflict : (job : JobData) (n m : ℕ) (fault : Fault) →
    IsFirstConflict (record job { steps = n }) fault →
    IsFirstConflict (record job { steps = m }) fault
steps_conflict job n m fault is = record {
  before = is.before;
  step = is.step;
  reached = steps_reached job n m is.before is.reached;
  dispute = subst (λ (requests : List Request).
      IsDispute (record job { steps = m }) requests (dispute_of fault))
      (asked_same job job.rule n is.before ∙ sym (asked_same job job.rule m is.before))
      (dispute_same job n m (requests_after (record job { steps = n }) is.before)
      (dispute_of fault) is.dispute);
}

pub longer_conflict : (job : JobData) (n : ℕ) (fault : Fault) →
    job.steps ≤ n → fault.step ≤ job.steps →
    IsAnswer job (Conflict fault) ↔ IsAnswer (record job { steps = n }) (Conflict fault)
longer_conflict job n fault le within = (
  λ answer.
      record { first = steps_conflict job job.steps n fault answer.first; within = omega arith },
  λ answer. record { first = steps_conflict job n job.steps fault answer.first; within = within },
)

pub steps_state_after : (job : JobData) (n t : ℕ) (s : State) → IsStateAfter job t s →
    IsStateAfter (record job { steps = n }) t s
steps_state_after job n t s is = record {
  reached = steps_reached job job.steps n t is.reached;
  state = is.state ∙ sym (steps_state job n t);
}
