use Rattle.std.proofs.Common.{◌≡◌, ◌++◌, take}
use Rattle.std.specs.List.{flat_map}
use Rattle.pardo_program.specs.Program.{ArrayData, PrivateData}
use Rattle.pardo_job.proofs.compiler.start_values.Given as goal

abbrev pub invariant-loop-array : goal.invariant-loop-array
invariant-loop-array l =
    l.values.items ≡ flat_map (λ (x : ArrayData). x.start) (take l.array-index l.program.arrays)

abbrev pub invariant-loop-variable : goal.invariant-loop-variable
invariant-loop-variable l =
    l.values.items ≡ flat_map (λ (x : ArrayData). x.start) l.program.arrays
    ++ flat_map (λ (x : PrivateData). x.start) (take l.variable-index l.program.privates)
