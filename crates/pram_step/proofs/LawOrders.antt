-- The order in which the processors are looked at is free.
use Rattle.std.proofs.Common.{◌≡◌, ◌≢◌, ℕ, zero, suc, ◌<◌, List, [], ◌∷◌, Option, Some}
use Rattle.std.proofs.Common.{None, map, length, refl, sym, ap, subst, ◌∙◌, ⊎_elim, arith}
use Rattle.std.specs.Prelude.{slice_get, slice_index, slice_index_or}
use Rattle.std.specs.List.{range_with_len, Contains}
use Rattle.std.specs.Option.{unwrap_or}
use Rattle.std.proofs.lemmas.Bool.{cases_lt}
use Rattle.std.proofs.lemmas.Option.{none-some}
use Rattle.pram_job.specs.declared.instr.Rule.{Rule}
use Rattle.pram_job.specs.declared.instr.Rule.TheVariants.{Common, Priority, Crew}
use Rattle.pram_job.specs.Job.{JobData, IsJob}
use Rattle.pram_machine.specs.declared.requests.Request.{Request}
use Rattle.pram_machine.specs.Machine.{State}
use Rattle.pram_machine.specs.Instructions.{requests_in}
use Rattle.pram_step.specs.Steps.{Writes, Agrees, written, first_written}
use Rattle.pram_step.specs.Steps.{after_requests, next_state}
use Rattle.pram_step.specs.Orders.{HasAll, written_by, first_found, after_first_found}
use Rattle.pram_step.proofs.LawWriters.{option_cases, or_none, or_some}
use Rattle.pram_step.proofs.LawWriters.{HasFirst, HasNone, writer_cases}
use Rattle.pram_step.proofs.LawPlaces.{one_writer_value, writer_is}
use Rattle.pram_step.proofs.LawNext.{common_value, crew_value}

-- ---- what one processor writes

by_cases : (job : JobData) (p i v : ℕ) (o : Option Request) →
    elim o [ None ↦ None | Some request ↦ written job p i request ] ≡ Some v →
    (request : Request) × (o ≡ Some request) × (written job p i request ≡ Some v)
by_cases job p i v None e = absurd (none-some v e)
by_cases job p i v (Some request) e = (request, refl, e)

pub writes_from_by : (job : JobData) (requests : List Request) (p i v : ℕ) →
    written_by job requests p i ≡ Some v → Writes job requests p i v
writes_from_by job requests p i v e =
    let is : (request : Request) × (slice_get requests i ≡ Some request)
    × (written job p i request ≡ Some v) = by_cases job p i v (slice_get requests i) e in
    record { request = is.0; request_is = is.1; writes = is.2 }

pub by_from_writes : (job : JobData) (requests : List Request) (p i v : ℕ) →
    Writes job requests p i v → written_by job requests p i ≡ Some v
by_from_writes job requests p i v w =
    ap (λ (o : Option Request). elim o [ None ↦ None | Some request ↦ written job p i request ])
    w.request_is ∙ w.writes

pub not_by : (job : JobData) (requests : List Request) (p i v : ℕ) → Writes job requests p i v →
    written_by job requests p i ≡ None → ⊥
not_by job requests p i v w none = none-some v (sym none ∙ by_from_writes job requests p i v w)

-- ---- the first that is found

-- processor i writes v to the place
pub record Found (job : JobData) (requests : List Request) (p v : ℕ) : Type 0 where
  pub writer : ℕ
  pub writes : Writes job requests p writer v

pub found_some : (job : JobData) (requests : List Request) (p v : ℕ) (order : List ℕ) →
    first_found job requests p order ≡ Some v → Found job requests p v
found_some job requests p v [] e = absurd (none-some v e)
found_some job requests p v (i ∷ order) e =
    ⊎_elim
    (λ here. record { writer = i; writes = writes_from_by job requests p i v here })
    (λ later. found_some job requests p v order later.1)
    (or_some _ _ v e)

found_none_at : (job : JobData) (requests : List Request) (p i k : ℕ) (order : List ℕ) →
    first_found job requests p order ≡ None → k < length order → slice_index_or order k i ≡ i →
    written_by job requests p i ≡ None
found_none_at job requests p i k [] e lt is = absurd (omega arith)
found_none_at job requests p i zero (x ∷ order) e lt is =
    subst (λ (j : ℕ). written_by job requests p j ≡ None) is (or_none _ _ e).0
found_none_at job requests p i (suc k) (x ∷ order) e lt is =
    found_none_at job requests p i k order (or_none _ _ e).1 (omega arith) is

found_none : (job : JobData) (requests : List Request) (p i : ℕ) (order : List ℕ) →
    first_found job requests p order ≡ None → Contains order i → written_by job requests p i ≡ None
found_none job requests p i order e there =
    found_none_at job requests p i there.0 order e there.1 there.2

-- where the step agrees with a rule other than priority, all writers of a place write one value
pub one_value : (job : JobData) (s : State) (p i j v w : ℕ) (rule : Rule) →
    job.rule ≡ rule → rule ≢ Priority → IsJob job → Agrees job (requests_in job s) →
    Writes job (requests_in job s) p i v → Writes job (requests_in job s) p j w → v ≡ w
one_value job s p i j v w Common rule other is_job agrees a b =
    ⊎_elim
    (λ cell. common_value job (requests_in job s) p i j v w rule agrees cell a b)
    (λ no_cell. one_writer_value job s p i j v w is_job no_cell a b)
    (cases_lt p job.cells)
one_value job s p i j v w Priority rule other is_job agrees a b = absurd (other refl)
one_value job s p i j v w Crew rule other is_job agrees a b =
    ⊎_elim
    (λ cell. crew_value job (requests_in job s) p i j v w rule agrees cell a b)
    (λ no_cell. one_writer_value job s p i j v w is_job no_cell a b)
    (cases_lt p job.cells)

first_found_none : (job : JobData) (requests : List Request) (p : ℕ) (order : List ℕ) →
    HasNone job requests p → first_found job requests p order ≡ None
first_found_none job requests p order n =
    option_cases (first_found job requests p order)
    (λ e. e)
    (λ v e.
    let f : Found job requests p v = found_some job requests p v order e in
    absurd (n.none f.writer v f.writes))

first_found_some : (job : JobData) (s : State) (p : ℕ) (order : List ℕ) → IsJob job →
    job.rule ≢ Priority → Agrees job (requests_in job s) → HasAll job order →
    (f : HasFirst job (requests_in job s) p) →
    first_found job (requests_in job s) p order ≡ Some f.value
first_found_some job s p order is_job rule agrees all f =
    option_cases (first_found job (requests_in job s) p order) (λ e.
    let i : f.writer < job.procs = (writer_is job s p f.writer f.value f.first.writes).0 in
    absurd (not_by job (requests_in job s) p f.writer f.value f.first.writes
    (found_none job (requests_in job s) p f.writer order e (all f.writer i))))
    (λ v e.
    let g : Found job (requests_in job s) p v = found_some job (requests_in job s) p v order e in
    e ∙ ap Some (one_value job s p g.writer f.writer v f.value job.rule refl rule is_job
    agrees g.writes f.first.writes))

pub first_found_is : (job : JobData) (s : State) (p : ℕ) (order : List ℕ) →
    IsJob job → job.rule ≢ Priority → Agrees job (requests_in job s) → HasAll job order →
    first_found job (requests_in job s) p order ≡ first_written job p 0 (requests_in job s)
first_found_is job s p order is_job rule agrees all = ⊎_elim
    (λ (n : HasNone job (requests_in job s) p).
    first_found_none job (requests_in job s) p order n ∙ sym n.found)
    (λ (f : HasFirst job (requests_in job s) p).
    first_found_some job s p order is_job rule agrees all f ∙ sym f.found)
    (writer_cases job (requests_in job s) p)

pub order_is_free : (job : JobData) (s : State) (order : List ℕ) →
    IsJob job → job.rule ≢ Priority → Agrees job (requests_in job s) → HasAll job order →
    after_first_found job (requests_in job s) order s ≡ next_state job s
unfolding after_first_found after_requests
order_is_free job s order is_job rule agrees all =
    ap (λ (f : ℕ → Option ℕ).
    map (λ p. unwrap_or (f p) (slice_index s p)) (range_with_len 0 (length s)))
    (λ k p. first_found_is job s p order is_job rule agrees all k)
