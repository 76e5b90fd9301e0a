-- Which places the processors of a job write to.
use Rattle.std.proofs.Common.{◌≡◌, ℕ, ◌<◌, ◌≤◌, ◌⊎◌, Some, sym, subst, inl, inr, arith}
use Rattle.pram_job.specs.Job.{JobData, IsJob}
use Rattle.pram_machine.specs.declared.requests.Request.{Request}
use Rattle.pram_machine.specs.Machine.{State, IsDataPlace, counter_place}
use Rattle.pram_machine.specs.Instructions.{request_in, requests_in}
use Rattle.pram_step.specs.Steps.{Writes, written}
use Rattle.pram_machine.proofs.Shapes.{asked_by, asked_is, request_place}
use Rattle.pram_step.proofs.RequestList.{written_cases}
use Rattle.pram_step.proofs.LawWriters.{written_once}

-- ---- what a processor writes

pub written_place : (job : JobData) (s : State) (p i v : ℕ) → IsJob job →
    written job p i (request_in job s i) ≡ Some v → (p ≡ counter_place job i) ⊎ IsDataPlace job i p
written_place job s p i v is_job e = elim (written_cases job p i v (request_in job s i) e) [
  | inl counter ↦ inl counter.0
  | inr puts ↦ inr (request_place job s i p v is_job puts)
]

pub writer_is : (job : JobData) (s : State) (p i v : ℕ) → Writes job (requests_in job s) p i v →
    (i < job.procs) × (written job p i (request_in job s i) ≡ Some v)
writer_is job s p i v w =
    let is : w.request ≡ request_in job s i = asked_is job s i w.request w.request_is in (
      asked_by job s i w.request w.request_is,
      subst (λ (r : Request). written job p i r ≡ Some v) is w.writes,
    )

-- what i writes to is its counter, a cell or one of its registers
pub writes_place : (job : JobData) (s : State) (p i v : ℕ) →
    IsJob job → Writes job (requests_in job s) p i v →
    (i < job.procs) × ((p ≡ counter_place job i) ⊎ IsDataPlace job i p)
writes_place job s p i v is_job w =
    let is : (i < job.procs) × (written job p i (request_in job s i) ≡ Some v) =
    writer_is job s p i v w in
    (is.0, written_place job s p i v is_job is.1)

one_owner : (job : JobData) (p i j : ℕ) → job.cells ≤ p →
    i < job.procs → j < job.procs → (p ≡ counter_place job i) ⊎ IsDataPlace job i p →
    (p ≡ counter_place job j) ⊎ IsDataPlace job j p → i ≡ j
one_owner job p i j no_cell below below_too a b = omega (arith, a, b)

pub one_writer : (job : JobData) (s : State) (p i j v w : ℕ) → IsJob job → job.cells ≤ p →
    Writes job (requests_in job s) p i v → Writes job (requests_in job s) p j w → i ≡ j
one_writer job s p i j v w is_job no_cell a b =
    let x : (i < job.procs) × ((p ≡ counter_place job i) ⊎ IsDataPlace job i p) =
    writes_place job s p i v is_job a in
    let y : (j < job.procs) × ((p ≡ counter_place job j) ⊎ IsDataPlace job j p) =
    writes_place job s p j w is_job b in
    one_owner job p i j no_cell x.0 y.0 x.1 y.1

pub one_writer_value : (job : JobData) (s : State) (p i j v w : ℕ) → IsJob job → job.cells ≤ p →
    Writes job (requests_in job s) p i v → Writes job (requests_in job s) p j w → v ≡ w
one_writer_value job s p i j v w is_job no_cell a b =
    let same : i ≡ j = one_writer job s p i j v w is_job no_cell a b in
    let here : Writes job (requests_in job s) p i w =
    subst (λ (k : ℕ). Writes job (requests_in job s) p k w) (sym same) b in
    written_once job (requests_in job s) p i v w a here

pub one_write : (job : JobData) (s : State) (p i j v w : ℕ) → IsJob job → job.cells ≤ p →
    Writes job (requests_in job s) p i v → Writes job (requests_in job s) p j w → (i ≡ j) × (v ≡ w)
one_write job s p i j v w is_job no_cell a b = (
  one_writer job s p i j v w is_job no_cell a b,
  one_writer_value job s p i j v w is_job no_cell a b,
)
