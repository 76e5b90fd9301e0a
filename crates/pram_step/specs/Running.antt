-- Which processors run, and for how many steps.
use Rattle.std.specs.Prelude.{◌≡◌, ℕ, ◌+◌, ◌<◌, Bool, nat_lt, List, All, length}
use Rattle.std.specs.List.{Contains}
use Rattle.std.specs.List.Sorted.{IsStrictlyIncreasing}
use Rattle.pram_job.specs.Job.{JobData}
use Rattle.pram_machine.specs.Machine.{State, counter, halted, place_count, AllStopped}
use Rattle.pram_step.specs.Runs.{state_after}

-- processor i runs: its counter is an instruction's index, and it executes that one in the step
abbrev pub is_running : JobData → State → ℕ → Bool
is_running job state i = nat_lt (counter job state i) (halted job)

-- these processors, in order, are below n, and all others below n have stopped
pub record AreRunningBelow (job : JobData) (state : State) (n : ℕ) (running : List ℕ) : Type 0 where
  pub within : All (λ i. i < n) running
  pub rises : IsStrictlyIncreasing running
  pub all : (i : ℕ) → i < n → counter job state i < halted job → Contains running i

abbrev pub AreRunning : JobData → State → List ℕ → Type 0
AreRunning job state running = AreRunningBelow job state job.procs running

-- the states after t steps and after each of those that follow, this many in all, are this one
abbrev pub Repeats : JobData → ℕ → ℕ → State → Type 0
Repeats job t times state = (k : ℕ) → k < times → state_after job (t + k) ≡ state

-- each processor stands where it does in the other state
pub record SameCounters (job : JobData) (other state : State) : Type 0 where
  pub len : length state ≡ place_count job
  pub same : (i : ℕ) → i < job.procs → counter job state i ≡ counter job other i

-- ---- when all have stopped

-- some processor runs before each of the first t steps
abbrev pub RunsBefore : JobData → ℕ → Type 0
RunsBefore job t = (u : ℕ) → u < t → AllStopped job (state_after job u) → ⊥

-- all have stopped after n steps, and not after fewer
pub record IsStop (job : JobData) (n : ℕ) : Type 0 where
  pub stopped : AllStopped job (state_after job n)
  pub runs : RunsBefore job n
