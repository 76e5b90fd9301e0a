use Rattle.std.proofs.Common.{◌≡◌, drop}
use Rattle.pardo_answers.specs.Traces.{array_with}
use Rattle.pardo_answers.proofs.tracer.array_with.Given as goal

-- no array so far has the cell
abbrev pub invariant-loop-array : goal.invariant-loop-array
invariant-loop-array l = array_with l.arrays l.cell ≡ array_with (drop l.array-index l.arrays) l.cell
