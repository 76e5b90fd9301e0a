use Rattle.std.proofs.Common.{◌≡◌, take}
use Rattle.job_text.specs.Printed.{arrays_in, once}
use Rattle.job_text.proofs.arrays.arrays_of.Given as goal

-- the arrays of the instructions so far
abbrev pub invariant-loop-instr : goal.invariant-loop-instr
invariant-loop-instr l = l.arrays ≡ once (arrays_in (take l.instr-index l.code))
