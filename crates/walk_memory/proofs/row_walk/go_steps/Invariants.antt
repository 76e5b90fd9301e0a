use Rattle.walk_memory.specs.Rows.{FarIn}
use Rattle.walk_memory.proofs.row_walk.go_steps.Given as goal

-- what is left to go leads to the same
abbrev pub invariant-loop : goal.invariant-loop
invariant-loop l = FarIn l.fn.job l.fn.lanes l.fn.start l.at l.fn.block l.block
