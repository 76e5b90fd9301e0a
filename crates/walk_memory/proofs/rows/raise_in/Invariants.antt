use Rattle.std.proofs.Common.{◌+◌, get_or}
use Rattle.walk_memory.specs.Rows.{Written}
use Rattle.walk_memory.proofs.rows.raise_in.Given as goal

-- the lanes so far are written
abbrev pub invariant-loop-k : goal.invariant-loop-k
invariant-loop-k l = Written l.fn.lanes.start l.k (λ k. l.fn.base + get_or l.fn.to k 0) l.fn.to l.to
