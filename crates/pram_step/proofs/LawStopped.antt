-- A machine whose processors have all stopped stays as it is.
use Rattle.std.proofs.Common.{◌≡◌, ℕ, ◌+◌, ◌-◌, ◌<◌, ◌≤◌, Bool, true, false, cond, Some, None}
use Rattle.std.proofs.Common.{refl, sym, ap, subst, ◌∙◌, ⊎_elim, arith, length, inl, inr}
use Rattle.std.specs.Prelude.{slice_index, ◌==◌}
use Rattle.std.proofs.lemmas.Bool.{cases_lt, eqb-true}
use Rattle.std.proofs.lemmas.List.{ext_get_or}
use Rattle.std.proofs.lemmas.Option.{none-some, same_Some, slice_get_past}
use Rattle.pram_job.specs.Job.{JobData}
use Rattle.pram_machine.specs.declared.requests.Request.{Request}
use Rattle.pram_machine.specs.Machine.{State, counter_place, counter, halted, IsStopped}
use Rattle.pram_machine.specs.Instructions.{goes_to, request_in, requests_in}
use Rattle.pram_step.specs.Steps.{Writes, written, Agrees, next_state}
use Rattle.pram_step.specs.Runs.{IsStateAfter}
use Rattle.pram_machine.specs.Machine.{AllStopped}
use Rattle.pram_step.specs.Inner.Passes.{AllIdle}
use Rattle.pram_step.proofs.LawWriters.{HasFirst, HasNone, writer_cases}
use Rattle.pram_step.proofs.LawPlaces.{writer_is}
use Rattle.pram_step.proofs.LawNext.{after_first, after_none}
use Rattle.pram_step.proofs.LawFixed.{length-after}
use Rattle.pram_step.proofs.LawFixed.{unchanged_later}

pub stopped_request : (job : JobData) (s : State) (i : ℕ) → IsStopped job s i →
    request_in job s i ≡ goes_to (counter job s i)
unfolding request_in
stopped_request job s i past = rw (slice_get_past job.code (counter job s i) past, request_in)

gone_to : (job : JobData) (p i next v : ℕ) (b : Bool) → b ≡ (p == counter_place job i) →
    cond b (Some next) None ≡ Some v → (p ≡ counter_place job i) × (v ≡ next)
gone_to job p i next v true is e =
    (eqb-true p (counter_place job i) (sym is), same_Some _ _ (sym e))
gone_to job p i next v false is e = absurd (none-some v e)

-- who writes to a cell runs
pub writer_runs : (job : JobData) (s : State) (cell i v : ℕ) → cell < job.cells →
    Writes job (requests_in job s) cell i v → counter job s i < halted job
writer_runs job s cell i v low w = elim (cases_lt (counter job s i) (halted job)) [
  | inl runs ↦ runs
  | inr past ↦
      let is : (i < job.procs) × (written job cell i (request_in job s i) ≡ Some v) =
      writer_is job s cell i v w in
      let goes : written job cell i (goes_to (counter job s i)) ≡ Some v =
      subst (λ (r : Request). written job cell i r ≡ Some v) (stopped_request job s i past) is.1 in
      let there : cell ≡ counter_place job i =
      (gone_to job cell i (counter job s i) v (cell == counter_place job i) refl goes).0 in
      absurd (omega arith)
]

-- a processor whose request changes nothing writes what its counter holds to its counter
idle_writes : (job : JobData) (s : State) (p i v : ℕ) → AllIdle job s →
    Writes job (requests_in job s) p i v →
    (p ≡ counter_place job i) × (v ≡ slice_index s (counter_place job i))
idle_writes job s p i v idle w =
    let is : (i < job.procs) × (written job p i (request_in job s i) ≡ Some v) =
    writer_is job s p i v w in
    let goes : written job p i (goes_to (counter job s i)) ≡ Some v =
    subst (λ (r : Request). written job p i r ≡ Some v) (idle i is.0) is.1 in
    gone_to job p i (counter job s i) v (p == counter_place job i) refl goes

unchanged_at : (job : JobData) (s : State) (p : ℕ) → AllIdle job s → p < length s →
    slice_index (next_state job s) p ≡ slice_index s p
unchanged_at job s p idle lt = ⊎_elim
    (λ (n : HasNone job (requests_in job s) p). after_none job (requests_in job s) s p lt n.found)
    (λ (f : HasFirst job (requests_in job s) p).
    let is : (p ≡ counter_place job f.writer)
    × (f.value ≡ slice_index s (counter_place job f.writer)) =
    idle_writes job s p f.writer f.value idle f.first.writes in
    after_first job (requests_in job s) s p f.value lt f.found ∙ is.1
    ∙ ap (slice_index s) (sym is.0))
    (writer_cases job (requests_in job s) p)

-- where all requests change nothing, the step changes nothing
pub unchanged : (job : JobData) (s : State) → AllIdle job s → next_state job s ≡ s
unchanged job s idle =
    ext_get_or 0 (next_state job s) s (length-after job (requests_in job s) s)
    (λ p lt. unchanged_at job s p idle (omega (arith, length-after job (requests_in job s) s)))

idle_agrees : (job : JobData) (s : State) → AllIdle job s → Agrees job (requests_in job s)
idle_agrees job s idle cell i j clash =
    let is_cell : cell < job.cells = clash.writes.0 in
    let is : (cell ≡ counter_place job i) × (clash.value ≡ slice_index s (counter_place job i)) =
    idle_writes job s cell i clash.value idle clash.writes.1 in
    let there : cell ≡ counter_place job i = is.0 in
    absurd (omega arith)

pub stopped_stays : (job : JobData) (s : State) → AllStopped job s →
    Agrees job (requests_in job s) × (next_state job s ≡ s)
stopped_stays job s stopped =
    let idle : AllIdle job s = λ i low. stopped_request job s i (stopped i low) in
    (idle_agrees job s idle, unchanged job s idle)

-- where all requests change nothing, each later state is this one
pub idle_later : (job : JobData) (t k : ℕ) (s : State) → IsStateAfter job t s → AllIdle job s →
    IsStateAfter job (t + k) s
idle_later job t k s is idle =
    unchanged_later job t k s is (idle_agrees job s idle) (unchanged job s idle)

-- and so it is after some steps and all later ones
pub idle_settles : (job : JobData) (t steps : ℕ) (s : State) → t ≤ steps → IsStateAfter job t s →
    AllIdle job s → (more : ℕ) → IsStateAfter job (steps + more) s
idle_settles job t steps s low is idle more =
    let e : t + (steps + more - t) ≡ steps + more = omega arith in
    subst (λ (n : ℕ). IsStateAfter job n s) e (idle_later job t (steps + more - t) s is idle)

pub stopped_later : (job : JobData) (t k : ℕ) (s : State) → IsStateAfter job t s →
    AllStopped job s → IsStateAfter job (t + k) s
stopped_later job t k s is stopped =
    let stays = stopped_stays job s stopped in unchanged_later job t k s is stays.0 stays.1
