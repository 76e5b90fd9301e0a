-- The places hold numbers below 2^32.
use Rattle.std.proofs.Common.{◌≡◌, ℕ, zero, suc, ◌-◌, ◌*◌, ◌^◌, ◌<◌, refl}
use Rattle.std.proofs.Common.{◌∙◌, inl, inr, ⊎_elim, arith, length, replicate}
use Rattle.std.specs.Prelude.{slice_index, slice_index_or}
use Rattle.std.specs.List.{All}
use Rattle.std.proofs.lemmas.Bool.{cases_lt}
use Rattle.std.proofs.lemmas.List.{get_or_default, get_or_append_left, get_or-append_right}
use Rattle.std.proofs.lemmas.List.{get_or-replicate, length-append, length-replicate}
use Rattle.pram_job.specs.Job.{JobData, IsJob}
use Rattle.pram_machine.specs.Machine.{State, place_count, counter, start}
use Rattle.pram_machine.specs.Instructions.{request_in, requests_in}
use Rattle.pram_step.specs.Steps.{Writes, next_state}
use Rattle.pram_step.specs.Runs.{state_after}
use Rattle.pram_step.proofs.LawWriters.{HasFirst, HasNone, writer_cases}
use Rattle.pram_step.proofs.RequestList.{written_cases}
use Rattle.pram_step.proofs.LawPlaces.{writer_is}
use Rattle.pram_machine.proofs.Shapes.{place_fits, request_value, request_next_fits}
use Rattle.pram_step.proofs.LawNext.{after_first, after_none}
use Rattle.pram_step.proofs.LawFixed.{length-after, length-state_after}

-- ---- what a state of such numbers holds at any place

fits_from_places : (s : State) →
    ((p : ℕ) → p < length s → slice_index s p < 2 ^ 32) → All (λ v. v < 2 ^ 32) s
fits_from_places s at p d lt =
    let same : slice_index_or s p d ≡ slice_index s p = get_or_default s p d 0 lt in
    let below : slice_index s p < 2 ^ 32 = at p lt in
    omega arith

-- ---- the state after it

pub writes_fit : (job : JobData) (s : State) (p i v : ℕ) → IsJob job → All (λ v. v < 2 ^ 32) s →
    Writes job (requests_in job s) p i v → v < 2 ^ 32
writes_fit job s p i v is_job fits w =
    let is = writer_is job s p i v w in
    elim (written_cases job p i v (request_in job s i) is.1) [
      | inl counter ↦ (let next = request_next_fits job s i is_job fits in
          let e = counter.1 in omega arith)
      | inr puts ↦ request_value job s i p v is_job fits is.0 puts
    ]

next_place_fits : (job : JobData) (s : State) (p : ℕ) → IsJob job → All (λ v. v < 2 ^ 32) s →
    p < length s → slice_index (next_state job s) p < 2 ^ 32
next_place_fits job s p is_job fits lt = ⊎_elim
    (λ (n : HasNone job (requests_in job s) p).
    omega (arith, after_none job (requests_in job s) s p lt n.found, place_fits s p fits))
    (λ (f : HasFirst job (requests_in job s) p). omega (
      arith,
      after_first job (requests_in job s) s p f.value lt f.found,
      writes_fit job s p f.writer f.value is_job fits f.first.writes,
    ))
    (writer_cases job (requests_in job s) p)

pub next_fits : (job : JobData) (s : State) → IsJob job → All (λ v. v < 2 ^ 32) s →
    All (λ v. v < 2 ^ 32) (next_state job s)
next_fits job s is_job fits = fits_from_places (next_state job s) (λ p lt.
    next_place_fits job s p is_job fits (omega (arith, length-after job (requests_in job s) s)))

start_place_fits : (job : JobData) (p : ℕ) → IsJob job → p < length (start job) →
    slice_index (start job) p < 2 ^ 32
start_place_fits job p is_job lt =
    ⊎_elim (λ given. omega (
      arith,
      get_or_append_left job.init (replicate (5 * job.procs) 0) 0 p given,
      is_job.init_fits p 0 given,
    )) (λ past.
    let within : p - length job.init < 5 * job.procs = omega (
      arith,
      length-append {A = ℕ} job.init (replicate (5 * job.procs) 0),
      length-replicate {A = ℕ} (5 * job.procs) 0,
    ) in
    let none : slice_index (start job) p ≡ 0 =
    get_or-append_right job.init (replicate (5 * job.procs) 0) (length job.init) p 0 refl past
    ∙ get_or-replicate (5 * job.procs) (p - length job.init) 0 0 within in omega arith)
    (cases_lt p (length job.init))

pub state_fits : (job : JobData) (t : ℕ) → IsJob job → All (λ v. v < 2 ^ 32) (state_after job t)
unfolding state_after
state_fits job zero is_job = fits_from_places (start job) (λ p lt. start_place_fits job p is_job lt)
state_fits job (suc t) is_job = next_fits job (state_after job t) is_job (state_fits job t is_job)

pub all_places : (job : JobData) (t : ℕ) → IsJob job →
    (length (state_after job t) ≡ place_count job) × All (λ v. v < 2 ^ 32) (state_after job t)
all_places job t is_job = (length-state_after job t is_job, state_fits job t is_job)
