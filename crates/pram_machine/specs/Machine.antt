-- The machine's places, and what they hold at the start.
use Rattle.std.specs.Prelude.{ℕ, ◌+◌, ◌*◌, ◌<◌, ◌≤◌, ◌⊎◌}
use Rattle.std.specs.Prelude.{List, ◌++◌, length, replicate, slice_index}
use Rattle.pram_job.specs.Job.{JobData}
use Rattle.pram_job.specs.Places.{register_at, counters_at, places_in}

-- The places: M cells, then four registers of each processor, then the counter of each.
abbrev pub State : Type 0
State = List ℕ

abbrev pub register_place : JobData → ℕ → ℕ → ℕ
register_place job i register = register_at job.cells i register

abbrev pub counter_place : JobData → ℕ → ℕ
counter_place job i = counters_at job.cells job.procs + i

abbrev pub place_count : JobData → ℕ
place_count job = places_in job.cells job.procs

-- the place is a cell, or a register of processor i
abbrev pub IsDataPlace : JobData → ℕ → ℕ → Type 0
IsDataPlace job i place = (place < job.cells)
    ⊎ ((register_place job i 0 ≤ place) × (place < register_place job i 4))

-- The cells hold their start values, all else 0.
abbrev pub start : JobData → State
start job = job.init ++ replicate (5 * job.procs) 0

abbrev pub register : JobData → State → ℕ → ℕ → ℕ
register job state i which = slice_index state (register_place job i which)

abbrev pub counter : JobData → State → ℕ → ℕ
counter job state i = slice_index state (counter_place job i)

-- A counter below K is the index of an instruction. K says that the processor has halted, K + 1
-- that an address was *out of range*: so it is called here where a processor names a cell that
-- there is not, or a place that its array has not, or divides by 0.
abbrev pub halted : JobData → ℕ
halted job = length job.code

abbrev pub out_of_range : JobData → ℕ
out_of_range job = length job.code + 1

-- it has stopped, by either
abbrev pub IsStopped : JobData → State → ℕ → Type 0
IsStopped job state i = halted job ≤ counter job state i

-- all processors have stopped
abbrev pub AllStopped : JobData → State → Type 0
AllStopped job state = (i : ℕ) → i < job.procs → IsStopped job state i
