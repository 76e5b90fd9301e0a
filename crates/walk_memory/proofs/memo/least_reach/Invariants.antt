use Rattle.std.proofs.Common.{◌≡◌, ◌+◌, ◌-◌, List}
use Rattle.walk_memory.specs.declared.memo.Memo.{Memo}
use Rattle.walk_memory.specs.Lanes.{lane}
use Rattle.walk_memory.specs.Memory.{memo_of}
use Rattle.walk_memory.specs.Blocks.{least_of}
use Rattle.walk_memory.specs.Rows.{AllIn}
use Rattle.walk_memory.proofs.memo.least_reach.Given as goal

-- with those from this one on it is the same
abbrev pub invariant-loop-k : goal.invariant-loop-k
invariant-loop-k l = (memory : List Memo) →
    AllIn l.fn.lanes.start l.fn.lanes.end (λ k.
    memo_of memory (l.fn.lanes.first + k) ≡ lane l.fn.block k) →
    least_of l.least l.fn.phase (l.fn.lanes.end - l.k) (l.fn.lanes.first + l.k) memory
    ≡ least_of l.fn.most l.fn.phase (l.fn.lanes.end - l.fn.lanes.start)
    (l.fn.lanes.first + l.fn.lanes.start) memory
