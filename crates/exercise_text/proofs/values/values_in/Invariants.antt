use Rattle.std.proofs.Common.{◌≡◌, ◌+◌, map}
use Rattle.std.specs.Prelude.{slice_index}
use Rattle.std.specs.List.{range_with_len}
use Rattle.exercise_text.proofs.values.values_in.Given as goal

-- the values so far
abbrev pub invariant-loop-index : goal.invariant-loop-index
invariant-loop-index l = l.values.items
    ≡ map (λ k. slice_index l.cells (l.array.base + k)) (range_with_len 0 l.index)
