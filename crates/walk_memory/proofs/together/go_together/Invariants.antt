use Rattle.walk_memory.specs.Apart.{GetAsFar}
use Rattle.walk_memory.proofs.together.go_together.Given as goal

-- each gets as far as it did
abbrev pub invariant-loop : goal.invariant-loop
invariant-loop l = GetAsFar l.fn.job l.fn.lanes l.fn.block l.block
