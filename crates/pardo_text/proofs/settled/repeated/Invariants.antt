use Rattle.std.proofs.Common.{◌≡◌, ◌%◌, length, map}
use Rattle.std.specs.Prelude.{slice_index}
use Rattle.std.specs.List.{range_with_len}
use Rattle.pardo_text.proofs.settled.repeated.Given as goal

-- the values so far
abbrev pub invariant-loop-place : goal.invariant-loop-place
invariant-loop-place l = l.all.items
    ≡ map (λ place. slice_index l.values (place % length l.values)) (range_with_len 0 l.place)
