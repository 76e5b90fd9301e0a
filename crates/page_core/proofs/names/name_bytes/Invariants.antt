use Rattle.std.proofs.Common.{◌≡◌, ◌++◌, take}
use Rattle.std.specs.List.{flat_map}
use Rattle.pardo_program.specs.Program.{ArrayData, PrivateData}
use Rattle.page_core.proofs.names.name_bytes.Given as goal

abbrev pub invariant-loop-array : goal.invariant-loop-array
invariant-loop-array l =
    l.names.items ≡ flat_map (λ (a : ArrayData). a.name) (take l.array-index l.arrays)

abbrev pub invariant-loop-variable : goal.invariant-loop-variable
invariant-loop-variable l =
    l.names.items ≡ flat_map (λ (a : ArrayData). a.name) l.arrays
    ++ flat_map (λ (v : PrivateData). v.name) (take l.variable-index l.privates)
