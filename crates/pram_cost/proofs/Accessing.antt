-- What processors read and write, and that one that has stopped does neither.
use Rattle.std.proofs.Common.{◌≡◌, ℕ, ◌<◌, true, false, List, length, get_or}
use Rattle.std.proofs.Common.{Option, Some, None, refl, sym, ap, subst, ◌∙◌, arith}
use Rattle.std.specs.Prelude.{is_some, nat_lt}
use Rattle.std.specs.List.{range_with_len}
use Rattle.std.specs.Option.{option_map}
use Rattle.std.proofs.lemmas.Bool.{ltb-true, ltb-false, lt-ltb}
use Rattle.std.proofs.lemmas.List.Folds.{list_any_at, list_any_none}
use Rattle.std.proofs.lemmas.List.FromFn.{length-range_with_len, get_or-range_with_len}
use Rattle.std.proofs.lemmas.Option.{none-some, slice_get_past, cond_some}
use Rattle.pram_job.specs.declared.instr.Instr.{Instr}
use Rattle.pram_job.specs.Job.{JobData}
use Rattle.pram_cost.specs.declared.meeting.Sharing.{Sharing}
use Rattle.pram_cost.specs.declared.meeting.Sharing.TheVariants.{SameRead, SameWrite, OtherValue}
use Rattle.pram_machine.specs.declared.requests.Request.{Request}
use Rattle.pram_cost.specs.Accesses.{cell_by, put_to_cell, write_by}
use Rattle.pram_step.specs.Running.{is_running}
use Rattle.pram_cost.specs.declared.found.Access.{Access}
use Rattle.pram_cost.specs.Costs.{has_access}
use Rattle.pram_cost.specs.Inner.Found.{access_at, AreAccesses}
use Rattle.pram_machine.specs.Instructions.{goes_to, request_in}
use Rattle.pram_machine.specs.Machine.{State, counter, halted}
use Rattle.pram_cost.specs.Meetings.{access_by}
use Rattle.pram_step.proofs.LawStopped.{stopped_request}
use Rattle.pram_cost.proofs.Runners.{range_below}

-- ---- one that has stopped

pub idle_request : (job : JobData) (s : State) (i : ℕ) → is_running job s i ≡ false →
    request_in job s i ≡ goes_to (counter job s i)
idle_request job s i idle =
    stopped_request job s i (ltb-false (counter job s i) (halted job) idle)

pub idle_access : (sharing : Sharing) (job : JobData) (s : State) (i : ℕ) →
    is_running job s i ≡ false → access_by sharing job s i ≡ None
idle_access SameRead job s i idle =
    ap (λ (o : Option Instr). option_map (λ (cell : ℕ). (cell, 0)) (cell_by job s i o))
    (slice_get_past job.code (counter job s i) (ltb-false (counter job s i) (halted job) idle))
idle_access SameWrite job s i idle =
    ap (λ (r : Request). put_to_cell job r.put) (idle_request job s i idle)
idle_access OtherValue job s i idle =
    ap (λ (r : Request). put_to_cell job r.put) (idle_request job s i idle)

-- ---- whether some processor has an access

pub has_access_at : (sharing : Sharing) (job : JobData) (s : State) (i : ℕ) → i < job.procs →
    is_some (access_by sharing job s i) ≡ true → has_access sharing job s ≡ true
has_access_at sharing job s i lt has =
    let there : get_or (range_with_len 0 job.procs) i 0 ≡ i =
    omega (arith, get_or-range_with_len 0 job.procs i 0 lt) in
    list_any_at (λ j. is_some (access_by sharing job s j)) (range_with_len 0 job.procs) i 0
    (omega (arith, length-range_with_len 0 job.procs))
    (subst (λ (j : ℕ). is_some (access_by sharing job s j) ≡ true) (sym there) has)

pub has_access_none : (sharing : Sharing) (job : JobData) (s : State) →
    ((i : ℕ) → i < job.procs → access_by sharing job s i ≡ None) →
    has_access sharing job s ≡ false
has_access_none sharing job s none =
    list_any_none (λ j. is_some (access_by sharing job s j)) (range_with_len 0 job.procs)
    (λ k d lt. ap (λ (o : Option (ℕ × ℕ)). is_some o)
    (none (get_or (range_with_len 0 job.procs) k d) (range_below job.procs k d lt)))

-- by the list of all such accesses
pub no_access : (sharing : Sharing) (job : JobData) (s : State) (list : List Access) →
    AreAccesses job.cells (access_by sharing job s) job.procs list → length list ≡ 0 →
    has_access sharing job s ≡ false
no_access sharing job s list are none = has_access_none sharing job s (λ i low.
    by_access i low (access_by sharing job s i) refl)
  where
    by_access : (i : ℕ) → i < job.procs → (o : Option (ℕ × ℕ)) → access_by sharing job s i ≡ o →
        access_by sharing job s i ≡ None
    by_access i low None is = is
    by_access i low (Some (cell, value)) is =
        absurd (are.all i cell value low is (λ k inside. absurd (omega arith)))

pub some_access : (sharing : Sharing) (job : JobData) (s : State) (list : List Access) →
    AreAccesses job.cells (access_by sharing job s) job.procs list → 0 < length list →
    has_access sharing job s ≡ true
some_access sharing job s list are some =
    let first = are.each 0 (record { processor = 0; cell = 0; value = 0 }) some in
    has_access_at sharing job s (access_at list 0).processor first.within
    (ap (λ (o : Option (ℕ × ℕ)). is_some o) first.goes)

-- ---- a write is what is put to a cell

put_of_cell : (job : JobData) (o : Option (ℕ × ℕ)) (cell v : ℕ) →
    put_to_cell job o ≡ Some (cell, v) → (cell < job.cells) × (o ≡ Some (cell, v))
put_of_cell job None cell v e = absurd (none-some (cell, v) e)
put_of_cell job (Some put) cell v e =
    let is = cond_some (nat_lt put.0 job.cells) put (cell, v) e in
    let low = ltb-true put.0 job.cells is.0 in
    let same = ap (λ (p : ℕ × ℕ). p.0) is.1 in
    (omega (arith, low, same), ap Some is.1)

pub write_is : (job : JobData) (s : State) (i cell v : ℕ) → write_by job s i ≡ Some (cell, v) →
    (cell < job.cells) × ((request_in job s i).put ≡ Some (cell, v))
write_is job s i cell v = put_of_cell job (request_in job s i).put cell v

pub write_from : (job : JobData) (s : State) (i cell v : ℕ) → cell < job.cells →
    (request_in job s i).put ≡ Some (cell, v) → write_by job s i ≡ Some (cell, v)
write_from job s i cell v low puts =
    ap (put_to_cell job) puts ∙ rw (lt-ltb cell job.cells low) refl
