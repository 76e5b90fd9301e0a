use Rattle.std.proofs.Common.{◌≡◌, ◌++◌, drop, get_or}
use Rattle.std.specs.List.{flat_map}
use Rattle.pardo_job.specs.Printed.{array_lines}
use Rattle.pardo_answers.proofs.text.push_arrays.Given as goal

-- the lines so far and those to come are all lines
abbrev pub invariant-loop-array : goal.invariant-loop-array
invariant-loop-array l =
    l.text.items ++ flat_map (array_lines (λ cell. get_or l.cells cell 0))
    (drop l.array-index l.arrays)
    ≡ l.fn.text.items ++ flat_map (array_lines (λ cell. get_or l.cells cell 0)) l.arrays
