use Rattle.std.proofs.Common.{◌≡◌, true}
use Rattle.std.specs.Prelude.{IfSome, slice_get}
use Rattle.walk_memory.specs.Memory.{is_load}
use Rattle.walk_memory.proofs.Apart.{HaveGone}
use Rattle.walk_memory.proofs.together.go_apart.Given as goal

-- those before this lane have gone on, and the load is one
abbrev pub invariant-loop-k : goal.invariant-loop-k
invariant-loop-k l =
    HaveGone l.fn.job l.fn.lanes l.k l.fn.block l.block
    × IfSome l.load (λ counter. is_load (slice_get l.fn.job.code counter) ≡ true)
