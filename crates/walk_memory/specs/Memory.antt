-- What a worker of the wide form remembers of a processor, and how that goes on by itself.
use Rattle.std.specs.Prelude.{◌≡◌, ℕ, zero, suc, ◌+◌, ◌-◌, ◌*◌, ◌^◌, ◌<◌, ◌≤◌, nat_lt, nat_le}
use Rattle.std.specs.Prelude.{if◌then◌else◌, Bool, true, false, not, ◌&&◌, ◌||◌, ◌==◌, is_none}
use Rattle.std.specs.Prelude.{is_some, List, [], ◌∷◌, length, map, slice_get, slice_set, Option}
use Rattle.std.specs.Prelude.{Some, None, IfSome, unwrap_or, replicate}
use Rattle.std.specs.List.{AllByRecursion}
use Rattle.pram_job.specs.Job.{JobData, IsJob}
use Rattle.pram_job.specs.declared.instr.Instr.{Instr}
use Rattle.pram_job.specs.declared.instr.Operands.{Operands}
use Rattle.pram_job.specs.declared.instr.Operands.TheVariants.{Bare, Target, TargetNumber}
use Rattle.pram_job.specs.declared.instr.Operands.TheVariants.{TargetPlace, TargetTwo, PlaceValue}
use Rattle.pram_job.specs.declared.instr.Operands.TheVariants.{RegisterIndex, Index}
use Rattle.pram_job.specs.Instructions.{row_of}
use Rattle.pram_job.specs.declared.instr.Rule.{Rule}
use Rattle.pram_job.specs.declared.instr.Rule.TheVariants.{Common, Priority, Crew}
use Rattle.pram_machine.specs.declared.requests.Request.{Request}
use Rattle.pram_machine.specs.Machine.{State, counter, out_of_range, register, register_place}
use Rattle.pram_machine.specs.Instructions.{cell_read, decided, goes_to, operand_in, request_in}
use Rattle.pram_step.specs.Runs.{state_after}
use Rattle.pram_words.specs.Phases.{phase_of}
use Rattle.pram_words.specs.declared.phases.Kind.{Kind}
use Rattle.pram_words.specs.declared.phases.Kind.TheVariants.{Compute, Apply, Verify}
use Rattle.walk_memory.specs.declared.memo.Memo.{Memo}
use Rattle.walk_memory.specs.declared.memo.Own.{Own}
use Rattle.walk_memory.specs.OwnWrites.{cell_write}

-- ---- what is a processor's own: its counter and its registers

-- the registers of a processor
abbrev pub all_registers : List ℕ
all_registers = 0 ∷ 1 ∷ 2 ∷ 3 ∷ []

-- in a state, and after t steps
abbrev pub own_in : JobData → State → ℕ → Own
own_in job state i = record {
  counter = counter job state i;
  registers = map (register job state i) all_registers;
}

abbrev pub own_at : JobData → ℕ → ℕ → Own
own_at job t i = own_in job (state_after job t) i

abbrev pub own_at_start : Own
own_at_start = record { counter = 0; registers = 0 ∷ 0 ∷ 0 ∷ 0 ∷ [] }

-- the cell that its instruction reads, if it reads one
abbrev pub cell_named : JobData → Own → Option Instr → Option ℕ
cell_named job own None = None
cell_named job own (Some instr) = cell_read job instr (operand_in own.registers instr 0)

abbrev pub cell_next : JobData → Own → Option ℕ
cell_next job own = cell_named job own (slice_get job.code own.counter)

-- its instruction is a load, be there such a cell or not
abbrev pub is_load_row : Operands → Bool
is_load_row Bare = false
is_load_row (Target target) = false
is_load_row (TargetNumber target number) = false
is_load_row (TargetPlace target place) = true
is_load_row (TargetTwo target first second) = false
is_load_row (PlaceValue place value) = false
is_load_row (RegisterIndex register index) = false
is_load_row (Index index) = false

abbrev pub is_load : Option Instr → Bool
is_load None = false
is_load (Some instr) = is_load_row (row_of instr).1

abbrev pub loads_next : JobData → Own → Bool
loads_next job own = is_load (slice_get job.code own.counter)

-- what it asks for, the cell having held this
abbrev pub asked_by : JobData → ℕ → Own → Option Instr → ℕ → Request
asked_by job i own None value = goes_to own.counter
asked_by job i own (Some instr) value =
    decided job i own.counter instr (operand_in own.registers instr 0)
    (operand_in own.registers instr 1) value

abbrev pub asked : JobData → ℕ → Own → ℕ → Request
asked job i own value = asked_by job i own (slice_get job.code own.counter) value

-- it is this after a request
abbrev pub registers_after : JobData → ℕ → List ℕ → Option (ℕ × ℕ) → List ℕ
registers_after job i registers None = registers
registers_after job i registers (Some write) = if nat_lt write.0 job.cells then registers
    else slice_set registers (write.0 - register_place job i 0) write.1

abbrev pub own_after : JobData → ℕ → Own → Request → Own
own_after job i own request = record {
  counter = request.next;
  registers = registers_after job i own.registers request.put;
}

abbrev pub has_stopped : JobData → Own → Bool
has_stopped job own = nat_le (length job.code) own.counter

-- ---- its words lag: they are written in steps in which it *settles*, that is, in loads, and 64
-- steps after it last did, until it has stopped

-- they are due in step t, having last been written in that step
abbrev pub is_due : ℕ → ℕ → Bool
is_due since t = nat_le (since + 64) t

-- in step t, being this before it, having last settled in that step
abbrev pub settles_in : JobData → ℕ → ℕ → Own → Bool
settles_in job t since own =
    loads_next job own || (is_due since t && not (has_stopped job own))

-- the last step up to t in which it did, or 0
unfoldable pub settled_at : JobData → ℕ → ℕ → ℕ
settled_at job zero i = 0
settled_at job (suc t) i = if settles_in job (suc t) (settled_at job t i) (own_at job t i) then suc t
    else settled_at job t i

-- in the step after t steps
abbrev pub settles : JobData → ℕ → ℕ → Bool
settles job t i = settles_in job (suc t) (settled_at job t i) (own_at job t i)

-- ---- what is remembered

-- what is known of each before the first step
abbrev pub at_start : Memo
at_start = record {
  acted = 0;
  step = 0;
  own = own_at_start;
  settled = 0;
  told = own_at_start;
  store = None;
}

-- a memory of so many processors of which nothing else is known
abbrev pub blank : ℕ → List Memo
blank procs = replicate procs at_start

-- what is known of processor i
abbrev pub memo_of : List Memo → ℕ → Memo
memo_of memory i = unwrap_or (slice_get memory i) at_start

-- Up to this phase all that it does is done, but for what was done in the phase when it last acted,
-- or before: a store that is remembered is still to be carried out.
abbrev pub reach : Memo → ℕ
reach memo = if is_some memo.store then 3 * memo.step - 2 else 3 * memo.step

-- nothing of it is to be done in this phase
abbrev pub is_past : ℕ → Memo → Bool
is_past phase memo = nat_lt memo.acted phase && nat_le phase (reach memo)

-- its store of step t is still to be carried out
abbrev pub has_store : ℕ → Memo → Bool
has_store t memo = (memo.step == t) && is_some memo.store

-- ---- how it goes on alone, as far as it neither settles nor stores; under common a store is
-- remembered, since nothing is claimed for it

abbrev pub is_common : Rule → Bool
is_common Common = true
is_common Priority = false
is_common Crew = false

-- in the next step it need do nothing in the first pass
abbrev pub goes_alone : JobData → ℕ → Memo → Bool
goes_alone job i memo = not (settles_in job (suc memo.step) memo.settled memo.own)
    && (is_common job.rule || is_none (cell_write job (asked job i memo.own 0).put))

abbrev pub one_alone : JobData → ℕ → Memo → Memo
one_alone job i memo = record memo {
  step = suc memo.step;
  own = own_after job i memo.own (asked job i memo.own 0);
  store = cell_write job (asked job i memo.own 0).put;
}

-- so many steps at most; one that has stopped goes on to the end at once
unfoldable pub goes_on_alone : ℕ → JobData → ℕ → Memo → Memo
goes_on_alone zero job i memo = memo
goes_on_alone (suc more) job i memo =
    if is_some memo.store || nat_le job.steps memo.step then memo
    else (if has_stopped job memo.own then record memo { step = job.steps }
    else (if goes_alone job i memo then goes_on_alone more job i (one_alone job i memo) else memo))

-- up to the step in which its words are due
abbrev pub steps_left : Memo → ℕ
steps_left memo = memo.settled + 64 - memo.step

abbrev pub gone_on : JobData → ℕ → Memo → Memo
gone_on job i memo = goes_on_alone (suc (steps_left memo)) job i memo

-- so many steps alone, whatever they are
abbrev pub own_alone : JobData → ℕ → ℕ → Own → Own
own_alone job i zero own = own
own_alone job i (suc more) own = own_alone job i more (own_after job i own (asked job i own 0))

-- ---- and is true: it is as in the machine's run

-- the store of processor i in a step, if it makes one
abbrev pub store_in : JobData → ℕ → ℕ → Option (ℕ × ℕ)
store_in job i zero = None
store_in job i (suc t) = cell_write job (request_in job (state_after job t) i).put

-- in the step after t steps it does nothing in a pass of the wide form
abbrev pub IsIdle : Rule → Kind → JobData → ℕ → ℕ → Type 0
IsIdle Common Compute job t i = settles job t i ≡ false
IsIdle Priority Compute job t i = (settles job t i ≡ false) × (store_in job i (suc t) ≡ None)
IsIdle Crew Compute job t i = (settles job t i ≡ false) × (store_in job i (suc t) ≡ None)
IsIdle rule Apply job t i = Unit {0}
IsIdle rule Verify job t i = store_in job i (suc t) ≡ None

pub record IsTrueMemo (job : JobData) (i : ℕ) (memo : Memo) : Type 0 where
  pub step : memo.step ≤ job.steps
  pub own : memo.own ≡ own_at job memo.step i
  pub settled : memo.settled ≡ settled_at job memo.step i
  pub told : memo.told ≡ own_at job (settled_at job memo.step i) i
  pub store : (write : ℕ × ℕ) → memo.store ≡ Some write → store_in job i memo.step ≡ Some write
  pub idle : (t : ℕ) (kind : Kind) → memo.acted < phase_of (suc t) kind →
      phase_of (suc t) kind ≤ reach memo → IsIdle job.rule kind job t i

abbrev pub IsTrueMemory : JobData → List Memo → Type 0
IsTrueMemory job memory = IsJob job → (i : ℕ) → i < job.procs →
    IsTrueMemo job i (memo_of memory i)

-- its numbers fit
pub record FitsOwn (job : JobData) (own : Own) : Type 0 where
  pub counter : own.counter ≤ out_of_range job
  pub registers : AllByRecursion (λ v. v < 2 ^ 32) own.registers
  pub four : length own.registers ≡ 4

pub record FitsMemo (job : JobData) (memo : Memo) : Type 0 where
  pub step : memo.step ≤ job.steps
  pub own : FitsOwn job memo.own
  pub told : FitsOwn job memo.told
  pub store : IfSome memo.store (λ write. (write.0 < job.cells) × (write.1 < 2 ^ 32))

abbrev pub FitsMemory : JobData → List Memo → Type 0
FitsMemory job memory = (i : ℕ) → FitsMemo job (memo_of memory i)
