use Rattle.std.proofs.Common.{◌≡◌, true, false, get_or}
use Rattle.walk_memory.specs.Rows.{AllIn}
use Rattle.walk_memory.proofs.row_walk.all_so.Given as goal

-- so it is in the lanes so far
abbrev pub invariant-loop-k : goal.invariant-loop-k
invariant-loop-k l = l.all ≡ true → AllIn l.fn.lanes.start l.k (λ k. get_or l.fn.x k false ≡ l.fn.value)
