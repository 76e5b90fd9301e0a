-- The two instructions that are of no line, and who executes them.
use Rattle.std.proofs.Common.{◌≡◌, ◌∙◌, ℕ, ◌+◌, ◌<◌, ◌≤◌, Bool, Option, Some, None}
use Rattle.std.proofs.Common.{ap, sym, refl, arith, ⊎_elim, if◌then◌else◌}
use Rattle.std.specs.Prelude.{slice_get}
use Rattle.std.specs.Option.{option_map}
use Rattle.std.proofs.lemmas.Bool.{cases_lt, le-ltb}
use Rattle.pram_job.specs.declared.instr.Instr.{Instr}
use Rattle.pram_job.specs.declared.instr.Instr.TheVariants.{Pid, Halt}
use Rattle.pram_job.specs.Job.{JobData, IsJob}
use Rattle.pram_machine.specs.declared.requests.Request.{Request}
use Rattle.pram_machine.specs.Instructions.{decided, decided_in, goes_to, request_in}
use Rattle.pram_machine.specs.Machine.{State, counter, halted, register_place}
use Rattle.pram_step.specs.Runs.{state_after}
use Rattle.pram_step.proofs.LawCounters.{stopped_processor}
use Rattle.pram_rows.specs.Fates.{NamesNone}
use Rattle.pram_cost.specs.Accesses.{cell_by, put_to_cell}
use Rattle.pram_cost.specs.Meetings.{access_by}
use Rattle.pram_cost.specs.declared.meeting.Sharing.{Sharing}
use Rattle.pram_cost.specs.declared.meeting.Sharing.TheVariants.{SameRead, SameWrite, OtherValue}
use Rattle.pardo_law.specs.Between.{Executes, LeavesIn}
use Rattle.pram_step.proofs.LawCounters.{counter_next}

-- ---- what is asked for

request_by : (job : JobData) (s : State) (i : ℕ) (instr : Instr) →
    slice_get job.code (counter job s i) ≡ Some instr →
    request_in job s i ≡ decided_in job s i instr
unfolding request_in
request_by job s i instr is = ap (λ (o : Option Instr). elim o as (λ (x : Option Instr). Request) [
  | None ↦ goes_to (counter job s i)
  | Some one ↦ decided_in job s i one
]) is

pid_next : (job : JobData) (s : State) (i : ℕ) →
    (decided_in job s i (Pid 3)).next ≡ counter job s i + 1
unfolding decided
pid_next job s i = refl

halt_next : (job : JobData) (s : State) (i : ℕ) → (decided_in job s i Halt).next ≡ halted job
unfolding decided
halt_next job s i = refl

pid_put : (job : JobData) (s : State) (i : ℕ) →
    put_to_cell job (decided_in job s i (Pid 3)).put ≡ None
unfolding decided
pid_put job s i = ap (λ (b : Bool). if b then Some (register_place job i 3, i) else None)
    (le-ltb (register_place job i 3) job.cells (omega arith))

halt_put : (job : JobData) (s : State) (i : ℕ) →
    put_to_cell job (decided_in job s i Halt).put ≡ None
unfolding decided
halt_put job s i = refl

-- ---- they go to no cell

by_put : (job : JobData) (s : State) (i : ℕ) (instr : Instr) →
    slice_get job.code (counter job s i) ≡ Some instr →
    put_to_cell job (decided_in job s i instr).put ≡ None →
    put_to_cell job (request_in job s i).put ≡ None
by_put job s i instr is none =
    ap (λ (r : Request). put_to_cell job r.put) (request_by job s i instr is) ∙ none

reads_none : (job : JobData) (s : State) (i : ℕ) (instr : Instr) →
    slice_get job.code (counter job s i) ≡ Some instr → cell_by job s i (Some instr) ≡ None →
    access_by SameRead job s i ≡ None
reads_none job s i instr is none = ap (option_map (λ (cell : ℕ). (cell, 0)))
    (ap (cell_by job s i) is ∙ none)

pub pid_access : (sharing : Sharing) (job : JobData) (t i : ℕ) → Executes job t i (Pid 3) →
    access_by sharing job (state_after job t) i ≡ None
pid_access SameRead job t i is = reads_none job (state_after job t) i (Pid 3) is refl
pid_access SameWrite job t i is =
    by_put job (state_after job t) i (Pid 3) is (pid_put job (state_after job t) i)
pid_access OtherValue job t i is =
    by_put job (state_after job t) i (Pid 3) is (pid_put job (state_after job t) i)

pub halt_access : (sharing : Sharing) (job : JobData) (t i : ℕ) → Executes job t i Halt →
    access_by sharing job (state_after job t) i ≡ None
halt_access SameRead job t i is = reads_none job (state_after job t) i Halt is refl
halt_access SameWrite job t i is =
    by_put job (state_after job t) i Halt is (halt_put job (state_after job t) i)
halt_access OtherValue job t i is =
    by_put job (state_after job t) i Halt is (halt_put job (state_after job t) i)

-- ---- they name every cell

pub pid_names : (job : JobData) (t i : ℕ) → Executes job t i (Pid 3) →
    NamesNone job (state_after job t) i → ⊥
pid_names job t i is names =
    let s : State = state_after job t in
    let next : (request_in job s i).next ≡ counter job s i + 1 =
    ap (λ (r : Request). r.next) (request_by job s i (Pid 3) is) ∙ pid_next job s i in
    let out = names.names_none in
    let runs = names.runs in
    omega arith

pub halt_names : (job : JobData) (t i : ℕ) → Executes job t i Halt →
    NamesNone job (state_after job t) i → ⊥
halt_names job t i is names =
    let s : State = state_after job t in
    let next : (request_in job s i).next ≡ halted job =
    ap (λ (r : Request). r.next) (request_by job s i Halt is) ∙ halt_next job s i in
    let out = names.names_none in
    omega arith

-- ---- who names no cell leaves, and the other way round

pub names_leaves : (job : JobData) (t i : ℕ) → IsJob job → NamesNone job (state_after job t) i →
    LeavesIn job t i
names_leaves job t i is_job names =
    let runs = names.runs in record {
      was_there = λ out. omega arith;
      is_gone = counter_next job t i is_job names.within ∙ names.names_none;
    }

pub leaves_names : (job : JobData) (t i : ℕ) → IsJob job → i < job.procs → LeavesIn job t i →
    NamesNone job (state_after job t) i
leaves_names job t i is_job lt leaves = record {
  within = lt;
  runs = ⊎_elim (λ (low : counter job (state_after job t) i < halted job). low)
      (λ (high : halted job ≤ counter job (state_after job t) i).
      absurd (leaves.was_there
      (sym (stopped_processor job t 1 i is_job lt high).0 ∙ leaves.is_gone)))
      (cases_lt (counter job (state_after job t) i) (halted job));
  names_none = sym (counter_next job t i is_job lt) ∙ leaves.is_gone;
}
