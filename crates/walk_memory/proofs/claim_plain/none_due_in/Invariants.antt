use Rattle.std.proofs.Common.{◌≡◌, false, true, get_or}
use Rattle.walk_memory.specs.Memory.{is_due}
use Rattle.walk_memory.specs.Rows.{AllIn}
use Rattle.walk_memory.proofs.claim_plain.none_due_in.Given as goal

-- so it is in the lanes so far
abbrev pub invariant-loop-k : goal.invariant-loop-k
invariant-loop-k l =
    l.none ≡ true → AllIn l.fn.lanes.start l.k (λ k. is_due (get_or l.fn.x k 0) l.fn.step ≡ false)
