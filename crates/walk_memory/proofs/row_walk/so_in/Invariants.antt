use Rattle.std.proofs.Common.{◌≡◌, ◌<◌, ◌≤◌, ℕ, false, get_or}
use Rattle.walk_memory.specs.Rows.{AllIn}
use Rattle.walk_memory.proofs.row_walk.so_in.Given as goal

-- the lanes so far are so, and the others as they were
abbrev pub invariant-loop-k : goal.invariant-loop-k
invariant-loop-k l =
    AllIn l.fn.lanes.start l.k (λ k. get_or l.to k false ≡ l.fn.value)
    × ((k : ℕ) → k < l.fn.lanes.start → get_or l.to k false ≡ get_or l.fn.to k false)
    × ((k : ℕ) → l.k ≤ k → get_or l.to k false ≡ get_or l.fn.to k false)
