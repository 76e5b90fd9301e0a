-- Bounds of what steps cost, and what a stopped machine costs.
use Rattle.std.proofs.Common.{◌≡◌, ℕ, ◌+◌, ◌*◌, ◌^◌, ◌<◌, ◌≤◌}
use Rattle.std.proofs.Common.{Bool, true, false, cond, length, get_or}
use Rattle.std.proofs.Common.{sym, ap₂, subst, ◌∙◌, inl, inr, arith}
use Rattle.std.specs.List.{range_with_len}
use Rattle.std.proofs.lemmas.Bool.{cases_lt, le-ltb, both_ways}
use Rattle.std.proofs.lemmas.List.Elements.{filter_passes}
use Rattle.std.proofs.lemmas.List.FromFn.{length-range_with_len, length-map-range_with_len}
use Rattle.std.proofs.lemmas.List.Sums.{count_by-le-length, length-filter, sum_by-le}
use Rattle.std.proofs.lemmas.Nat.{mul-le}
use Rattle.std.proofs.lemmas.Option.{none-some}
use Rattle.std.proofs.Math.Nat.{mul-le-mul_left}
use Rattle.pram_job.specs.Job.{JobData, IsJob}
use Rattle.pram_cost.specs.declared.meeting.Sharing.{Sharing}
use Rattle.pram_cost.specs.declared.pram.Pram.TheVariants.{Erew}
use Rattle.pram_cost.specs.Accesses.{running_in}
use Rattle.pram_step.specs.Running.{is_running}
use Rattle.pram_cost.specs.Costs.{at_work, has_access, first_states, executed, steps_with}
use Rattle.pram_machine.specs.Machine.{AllStopped}
use Rattle.pram_machine.specs.Machine.{State, counter, halted}
use Rattle.pram_cost.specs.Models.{Accepts}
use Rattle.pram_step.specs.Runs.{state_after}
use Rattle.pram_cost.proofs.Accessing.{idle_access, has_access_none}
use Rattle.pram_cost.proofs.Runners.{running_below}

pub at_most_all : (job : JobData) (s : State) → at_work job s ≤ job.procs
at_most_all job s = omega (
  arith,
  length-filter (is_running job s) (range_with_len 0 job.procs),
  count_by-le-length (is_running job s) (range_with_len 0 job.procs),
  length-range_with_len 0 job.procs,
)

length-first_states : (job : JobData) (n : ℕ) → length (first_states job n) ≡ n
length-first_states job n = length-map-range_with_len (state_after job) 0 n

pub within_product : (job : JobData) (n : ℕ) → executed job n ≤ n * job.procs
within_product job n = subst (λ (k : ℕ). executed job n ≤ k * job.procs)
    (length-first_states job n)
    (sum_by-le (at_work job) job.procs (first_states job n) (λ k d lt. at_most_all job _))

pub steps_within : (sharing : Sharing) (job : JobData) (n : ℕ) → steps_with sharing job n ≤ n
steps_within sharing job n = omega (
  arith,
  count_by-le-length (has_access sharing job) (first_states job n),
  length-first_states job n,
)

-- so their number fits, with those of some more equal steps
pub executed_fits : (job : JobData) (s : State) (n times : ℕ) → IsJob job →
    n + times < 2 ^ 32 → executed job n + times * at_work job s < 2 ^ 64
executed_fits job s n times is_job within =
    let few = is_job.procs.1 in
    let before = within_product job n in
    let each = mul-le-mul_left times (at_most_all job s) in
    let whole = mul-le (n + times) job.procs (2 ^ 32) 65536 (omega arith) (omega arith) in
    omega (arith, before, each, whole)

pub work_fits : (job : JobData) (s : State) (n times times' running before : ℕ) → IsJob job →
    n + times < 2 ^ 32 → times' ≡ times → running ≡ at_work job s → before ≡ executed job n →
    before + times' * running < 2 ^ 64
work_fits job s n times times' running before is_job within same runs is =
    let fits = executed_fits job s n times is_job within in
    let e : times' * running ≡ times * at_work job s = ap₂ (λ (a b : ℕ). a * b) same runs in
    omega (arith, fits, e, is)

pub count_fits : (sharing : Sharing) (job : JobData) (n times before more : ℕ) (b : Bool) →
    n + times < 2 ^ 32 → before ≡ steps_with sharing job n →
    more ≡ cond b times 0 → before + more < 2 ^ 32
count_fits sharing job n times before more true within is all =
    let few = steps_within sharing job n in omega arith
count_fits sharing job n times before more false within is none =
    let few = steps_within sharing job n in omega arith

-- ---- a stopped machine

stopped_idle : (job : JobData) (s : State) (i : ℕ) → AllStopped job s → i < job.procs →
    is_running job s i ≡ false
stopped_idle job s i stopped lt = le-ltb (counter job s i) (halted job) (stopped i lt)

none_runs : (job : JobData) (s : State) → AllStopped job s → at_work job s ≡ 0
none_runs job s stopped = elim (cases_lt 0 (length (running_in job s))) [
  | inl some ↦
      let first = get_or (running_in job s) 0 0 in
      let runs = filter_passes (is_running job s) (range_with_len 0 job.procs) 0 0 some in
      let idle = stopped_idle job s first stopped (running_below job s 0 0 some) in
      absurd (both_ways (is_running job s first) idle runs)
  | inr none ↦ omega arith
]

pub stopped_costs : (sharing : Sharing) (job : JobData) (s : State) → AllStopped job s →
    (at_work job s ≡ 0) × (has_access sharing job s ≡ false) × Accepts Erew job s
stopped_costs sharing job s stopped = (
  none_runs job s stopped,
  has_access_none sharing job s
      (λ i lt. idle_access sharing job s i (stopped_idle job s i stopped lt)),
  λ kind cell i j met.
      let idle = idle_access kind job s i (stopped_idle job s i stopped met.within) in
      absurd (none-some (cell, met.value) (sym idle ∙ met.goes)),
)
