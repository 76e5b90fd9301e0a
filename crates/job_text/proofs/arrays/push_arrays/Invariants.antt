use Rattle.std.proofs.Common.{◌≡◌, ◌++◌, drop, map, string_bytes}
use Rattle.job_text.specs.Printed.{array_line, lines_text}
use Rattle.job_text.proofs.arrays.push_arrays.Given as goal

-- the lines so far and those to come are all lines
abbrev pub invariant-loop-array : goal.invariant-loop-array
invariant-loop-array g l =
    let words = g.N.ArrayNames.words l.names in
    string_bytes l.text ++ lines_text (map (array_line words) (drop l.array-index l.arrays))
    ≡ string_bytes l.fn.text ++ lines_text (map (array_line words) l.arrays)
