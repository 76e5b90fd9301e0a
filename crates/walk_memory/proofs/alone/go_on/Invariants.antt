use Rattle.std.proofs.Common.{◌≡◌, ◌≢◌, ◌-◌, ℕ, suc}
use Rattle.walk_memory.specs.Lanes.{lane}
use Rattle.walk_memory.specs.Memory.{goes_on_alone, gone_on, steps_left}
use Rattle.walk_memory.proofs.alone.go_on.Given as goal

-- what is left to go leads to the same
abbrev pub invariant-loop : goal.invariant-loop
invariant-loop l =
    (goes_on_alone (suc (steps_left (lane l.fn.block l.fn.k)) - l.counter) l.fn.job l.fn.i (lane l.block l.fn.k)
    ≡ gone_on l.fn.job l.fn.i (lane l.fn.block l.fn.k))
    × (l.steps ≡ l.fn.job.steps)
    × ((j : ℕ) → j ≢ l.fn.k → lane l.block j ≡ lane l.fn.block j)
