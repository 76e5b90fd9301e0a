-- The state after t steps: how long it is, and a state that its step leaves as it is.
use Rattle.std.proofs.Common.{◌≡◌, ℕ, zero, suc, ◌+◌, ◌*◌, ◌<◌, ◌≤◌, refl, sym, ap, subst, ◌∙◌}
use Rattle.std.proofs.Common.{inl, inr, arith, List, length, length-append, replicate}
use Rattle.std.proofs.lemmas.List.{length-replicate}
use Rattle.std.proofs.lemmas.Bool.{cases_order}
use Rattle.std.proofs.lemmas.List.FromFn.{length-map-range_with_len}
use Rattle.std.proofs.Math.Nat.{add-zero}
use Rattle.pram_job.specs.Job.{JobData, IsJob}
use Rattle.pram_machine.specs.declared.requests.Request.{Request}
use Rattle.pram_machine.specs.Machine.{State, place_count, start}
use Rattle.pram_machine.specs.Instructions.{requests_in}
use Rattle.pram_step.specs.declared.answer.Fault.{Fault}
use Rattle.pram_step.specs.Steps.{Agrees, IsDispute, next_state, after_requests}
use Rattle.pram_step.specs.Running.{SameCounters}
use Rattle.pram_step.specs.Runs.{AgreesAfter, IsFirstConflict, IsReached, IsStateAfter}
use Rattle.pram_step.specs.Runs.{dispute_of, state_after}

-- ---- lengths

pub length-after : (job : JobData) (requests : List Request) (s : State) →
    length (after_requests job requests s) ≡ length s
unfolding after_requests
length-after job requests s = length-map-range_with_len _ 0 (length s)

length-start : (job : JobData) → IsJob job → length (start job) ≡ place_count job
length-start job is_job = omega (
  arith,
  is_job.init_len,
  length-append {A = ℕ} job.init (replicate (5 * job.procs) 0),
  length-replicate {A = ℕ} (5 * job.procs) 0,
)

pub length-state_after : (job : JobData) (t : ℕ) → IsJob job →
    length (state_after job t) ≡ place_count job
unfolding state_after
length-state_after job zero is_job = length-start job is_job
length-state_after job (suc t) is_job = length-after job (requests_in job (state_after job t))
    (state_after job t) ∙ length-state_after job t is_job

-- ---- how far there are states

pub reached_down : (job : JobData) (t u : ℕ) → t ≤ u → IsReached job u → IsReached job t
reached_down job t u low reached = λ s below. reached s (omega arith)

pub reached_more : (job : JobData) (t : ℕ) → IsReached job t →
    AgreesAfter job t → IsReached job (suc t)
reached_more job t reached agrees = λ s below. elim (cases_order s t) [
  | inl same ↦ subst (AgreesAfter job) (sym same) agrees
  | inr apart ↦ elim apart [ inl less ↦ reached s less | inr more ↦ absurd (omega arith) ]
]

pub start_after : (job : JobData) → IsStateAfter job 0 (start job)
unfolding state_after
start_after job = record { reached = λ s below. absurd (omega arith); state = refl }

next_after_suc : (job : JobData) (t : ℕ) (s : State) → IsStateAfter job t s →
    Agrees job (requests_in job s) → IsStateAfter job (suc t) (next_state job s)
unfolding state_after
next_after_suc job t s is agrees = record {
  reached = reached_more job t is.reached
      (subst (λ (r : State). Agrees job (requests_in job r)) is.state agrees);
  state = ap (next_state job) is.state;
}

pub next_after : (job : JobData) (t : ℕ) (s : State) → IsStateAfter job t s →
    Agrees job (requests_in job s) → IsStateAfter job (t + 1) (next_state job s)
next_after job t s is agrees =
    let e : suc t ≡ t + 1 = omega arith in
    subst (λ (n : ℕ). IsStateAfter job n (next_state job s)) e (next_after_suc job t s is agrees)

-- a dispute after t steps is the first conflict, and each processor then stands where it goes
pub disputed_there : (job : JobData) (t to : ℕ) (s new : State) (fault : Fault) →
    IsStateAfter job t s → t < to → fault.step ≡ t + 1 →
    IsDispute job (requests_in job s) (dispute_of fault) →
    SameCounters job (next_state job s) new → IsFirstConflict job fault × (fault.step ≤ to)
    × SameCounters job (state_after job fault.step) new
unfolding state_after
disputed_there job t to s new fault after below step dispute same =
    let e : suc t ≡ fault.step = omega arith in (
      record {
        before = t;
        step = step;
        reached = after.reached;
        dispute = subst (λ (r : State). IsDispute job (requests_in job r) (dispute_of fault))
            after.state dispute;
      },
      omega arith,
      subst (λ (r : State). SameCounters job r new)
          (ap (next_state job) after.state ∙ ap (state_after job) e) same,
    )

pub one_state : (job : JobData) (t : ℕ) (r s : State) →
    IsStateAfter job t r → IsStateAfter job t s → r ≡ s
one_state job t r s a b = a.state ∙ sym b.state

-- ---- a state that its step leaves as it is

pub unchanged_later : (job : JobData) (t k : ℕ) (s : State) → IsStateAfter job t s →
    Agrees job (requests_in job s) → next_state job s ≡ s → IsStateAfter job (t + k) s
unchanged_later job t zero s is agrees same =
    subst (λ (n : ℕ). IsStateAfter job n s) (sym (add-zero t)) is
unchanged_later job t (suc k) s is agrees same =
    let next = next_after job (t + k) s (unchanged_later job t k s is agrees same) agrees in
    let e : t + k + 1 ≡ t + suc k = omega arith in
    subst (IsStateAfter job (t + suc k)) same
    (subst (λ (n : ℕ). IsStateAfter job n (next_state job s)) e next)
