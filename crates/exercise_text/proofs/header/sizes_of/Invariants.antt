use Rattle.std.specs.Prelude.{◌≡◌, map, take}
use Rattle.exercise_text.specs.Headers.{array_size}
use Rattle.exercise_text.proofs.header.sizes_of.Given as goal

-- those of the arrays so far
abbrev pub invariant-loop-array : goal.invariant-loop-array
invariant-loop-array l = l.sizes.items ≡ map array_size (take l.array-index l.arrays)
