use Rattle.std.proofs.Common.{get_or}
use Rattle.std.specs.Prelude.{unwrap_or}
use Rattle.pram_machine.specs.Instructions.{computed}
use Rattle.walk_memory.specs.Rows.{Written}
use Rattle.walk_memory.proofs.rows.compute_in.Given as goal

-- the lanes so far are written
abbrev pub invariant-loop-k : goal.invariant-loop-k
invariant-loop-k l = Written l.fn.lanes.start l.k (λ k. unwrap_or (computed l.fn.instr (get_or l.fn.x k 0) (get_or l.fn.y k 0)) 0) l.fn.to l.to
