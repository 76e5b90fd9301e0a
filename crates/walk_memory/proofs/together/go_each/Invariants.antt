use Rattle.walk_memory.specs.Apart.{GetAsFar}
use Rattle.walk_memory.proofs.together.go_each.Given as goal

-- each gets as far as it did
abbrev pub invariant-loop-k : goal.invariant-loop-k
invariant-loop-k g l = GetAsFar l.fn.job l.fn.lanes l.fn.block l.block
