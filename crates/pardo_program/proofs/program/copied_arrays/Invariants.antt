use Rattle.std.proofs.Common.{◌≡◌, take}
use Rattle.pardo_program.proofs.program.copied_arrays.Given as goal

abbrev pub invariant-loop-array : goal.invariant-loop-array
invariant-loop-array l = l.copies.items ≡ take l.array-index l.arrays
