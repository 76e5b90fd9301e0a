-- How often each instruction of a job is executed.
use Rattle.std.specs.Prelude.{ℕ, zero, suc, ◌+◌, ◌==◌, nat_lt, if◌then◌else◌, max, count_by}
use Rattle.std.specs.List.{range_with_len}
use Rattle.pram_job.specs.Job.{JobData}
use Rattle.pram_machine.specs.Machine.{State, counter}
use Rattle.pram_step.specs.Runs.{state_after}

-- how many processors stand at the instruction in a state
abbrev pub standing_at_index : JobData → ℕ → State → ℕ
standing_at_index job index state =
    count_by (λ i. counter job state i == index) (range_with_len 0 job.procs)

-- ---- of the first n steps

-- how often it is executed
unfoldable pub executed_at : JobData → ℕ → ℕ → ℕ
executed_at job index zero = 0
executed_at job index (suc n) =
    executed_at job index n + standing_at_index job index (state_after job n)

-- in how many of them some processor executes it
unfoldable pub instruction_steps : JobData → ℕ → ℕ → ℕ
instruction_steps job index zero = 0
instruction_steps job index (suc n) = instruction_steps job index n
    + (if nat_lt 0 (standing_at_index job index (state_after job n)) then 1 else 0)

-- the most that execute it in one of them
unfoldable pub most_at : JobData → ℕ → ℕ → ℕ
most_at job index zero = 0
most_at job index (suc n) =
    max (most_at job index n) (standing_at_index job index (state_after job n))
