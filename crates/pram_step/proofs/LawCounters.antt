-- Where the counters go.
use Rattle.std.proofs.Common.{◌≡◌, ℕ, zero, suc, ◌+◌, ◌-◌, ◌*◌, ◌<◌, ◌≤◌, Bool, true, false}
use Rattle.std.proofs.Common.{cond, Some, None, refl, ap, ◌∙◌, ⊎_elim, arith, length, replicate}
use Rattle.std.specs.Prelude.{◌==◌, if◌then◌else◌}
use Rattle.std.proofs.lemmas.Bool.{eq-eqb}
use Rattle.std.proofs.lemmas.List.{get_or-append_right, get_or-replicate}
use Rattle.pram_job.specs.Job.{JobData, IsJob}
use Rattle.pram_machine.specs.declared.requests.Request.{Request}
use Rattle.pram_machine.specs.Machine.{State, place_count, counter_place}
use Rattle.pram_machine.specs.Machine.{counter, out_of_range, IsStopped, start}
use Rattle.pram_machine.specs.Instructions.{request_in, requests_in}
use Rattle.pram_step.specs.Steps.{Writes, written, next_state}
use Rattle.pram_step.specs.Runs.{state_after}
use Rattle.pram_step.proofs.LawWriters.{HasFirst, HasNone, writer_cases}
use Rattle.pram_step.proofs.LawPlaces.{one_writer_value}
use Rattle.pram_machine.proofs.Shapes.{asks, request_within}
use Rattle.pram_step.proofs.LawNext.{after_first}
use Rattle.pram_step.proofs.LawStopped.{stopped_request}
use Rattle.pram_step.proofs.LawFixed.{length-state_after}

-- ---- a counter takes what its processor asks for

written_next : (job : JobData) (i : ℕ) (r : Request) →
    written job (counter_place job i) i r ≡ Some r.next
written_next job i r = chosen (counter_place job i == counter_place job i)
    (eq-eqb (counter_place job i) (counter_place job i) refl)
  where
    chosen : (b : Bool) → b ≡ true → cond b (Some r.next) (elim r.put [
      | None ↦ None
      | Some w ↦ if w.0 == counter_place job i then Some w.1 else None
    ]) ≡ Some r.next
    chosen true e = refl
    chosen false e = absurd (cc)

pub writes_next : (job : JobData) (s : State) (i : ℕ) → i < job.procs →
    Writes job (requests_in job s) (counter_place job i) i (request_in job s i).next
writes_next job s i lt = record {
  request = request_in job s i;
  request_is = asks job s i lt;
  writes = written_next job i (request_in job s i);
}

pub next_counter : (job : JobData) (s : State) (i : ℕ) → IsJob job → length s ≡ place_count job →
    i < job.procs → counter job (next_state job s) i ≡ (request_in job s i).next
next_counter job s i is_job len lt =
    let within : counter_place job i < length s = omega arith in
    let no_cell : job.cells ≤ counter_place job i = omega arith in
    let mine : Writes job (requests_in job s) (counter_place job i) i (request_in job s i).next =
    writes_next job s i lt in ⊎_elim
    (λ (n : HasNone job (requests_in job s) (counter_place job i)).
    absurd (n.none i (request_in job s i).next mine))
    (λ (f : HasFirst job (requests_in job s) (counter_place job i)).
    after_first job (requests_in job s) s (counter_place job i) f.value within f.found
    ∙ one_writer_value job s (counter_place job i) f.writer i f.value
    (request_in job s i).next is_job no_cell f.first.writes mine)
    (writer_cases job (requests_in job s) (counter_place job i))

-- so it is after some steps
pub counter_next : (job : JobData) (t i : ℕ) → IsJob job → i < job.procs →
    counter job (state_after job (t + 1)) i ≡ (request_in job (state_after job t) i).next
unfolding state_after
counter_next job t i is_job within =
    let e : t + 1 ≡ suc t = omega arith in
    ap (λ (n : ℕ). counter job (state_after job n) i) e
    ∙ next_counter job (state_after job t) i is_job (length-state_after job t is_job) within

-- ---- a processor that has stopped stays stopped, and writes no data

stopped_counter : (job : JobData) (t k i : ℕ) →
    IsJob job → i < job.procs → IsStopped job (state_after job t) i →
    counter job (state_after job (t + k)) i ≡ counter job (state_after job t) i
unfolding state_after
stopped_counter job t zero i is_job lt past =
    ap (λ (n : ℕ). counter job (state_after job n) i) (omega arith)
stopped_counter job t (suc k) i is_job lt past =
    let before : counter job (state_after job (t + k)) i ≡ counter job (state_after job t) i =
    stopped_counter job t k i is_job lt past in
    let still : IsStopped job (state_after job (t + k)) i = omega (arith, before, past) in
    let there : t + suc k ≡ suc (t + k) = omega arith in
    ap (λ (n : ℕ). counter job (state_after job n) i) there
    ∙ next_counter job (state_after job (t + k)) i is_job (length-state_after job (t + k) is_job) lt
    ∙ ap (λ (r : Request). r.next) (stopped_request job (state_after job (t + k)) i still) ∙ before

pub stopped_processor : (job : JobData) (t k i : ℕ) →
    IsJob job → i < job.procs → IsStopped job (state_after job t) i →
    (counter job (state_after job (t + k)) i ≡ counter job (state_after job t) i)
    × ((request_in job (state_after job (t + k)) i).put ≡ None)
stopped_processor job t k i is_job lt past =
    let same = stopped_counter job t k i is_job lt past in
    let still : IsStopped job (state_after job (t + k)) i = omega (arith, same, past) in
    (same, ap (λ (r : Request). r.put) (stopped_request job (state_after job (t + k)) i still))

-- ---- how far a counter goes

pub start_counter : (job : JobData) (i : ℕ) → IsJob job → i < job.procs → counter job (start job) i ≡ 0
start_counter job i is_job lt =
    let len : length job.init ≡ job.cells = is_job.init_len in
    let past : job.cells ≤ counter_place job i = omega arith in
    let within : counter_place job i - job.cells < 5 * job.procs = omega arith in
    get_or-append_right job.init (replicate (5 * job.procs) 0) job.cells (counter_place job i) 0 len
    past ∙ get_or-replicate (5 * job.procs) (counter_place job i - job.cells) 0 0 within

-- a counter is an instruction's place, the code's length, or one more
pub counter_within : (job : JobData) (t i : ℕ) → IsJob job → i < job.procs →
    counter job (state_after job t) i ≤ out_of_range job
unfolding state_after
counter_within job zero i is_job lt = omega (arith, start_counter job i is_job lt)
counter_within job (suc t) i is_job lt =
    let le : (request_in job (state_after job t) i).next ≤ out_of_range job =
    request_within job (state_after job t) i is_job (counter_within job t i is_job lt) in
    omega (
      arith,
      next_counter job (state_after job t) i is_job (length-state_after job t is_job) lt,
      le,
    )
