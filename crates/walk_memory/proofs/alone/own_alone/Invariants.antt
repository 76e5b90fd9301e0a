use Rattle.std.proofs.Common.{◌≡◌, ◌-◌}
use Rattle.walk_memory.specs.Inner.Posts.{processor_of}
use Rattle.walk_memory.specs.Memory.{own_alone}
use Rattle.walk_memory.proofs.alone.own_alone.Given as goal

-- what is left to go leads to the same
abbrev pub invariant-loop : goal.invariant-loop
invariant-loop l =
    own_alone l.fn.leaf.job (processor_of l.fn.leaf) (l.fn.more - l.counter) l.own
    ≡ own_alone l.fn.leaf.job (processor_of l.fn.leaf) l.fn.more l.fn.told
