use Rattle.std.proofs.Common.{◌≡◌, ◌-◌, ◌∙◌, [], ◌++◌, ℕ, List, ap, arith, length, replicate, take}
use Rattle.std.specs.List.{flat_map}
use Rattle.pardo_program.specs.Program.{ArrayData, PrivateData}
use Rattle.pardo_flat.specs.Layouts.{ProgramLayoutData, cell_count, given_values}
use Rattle.pardo_job.proofs.Initial.{start_is, values_all, values_more}
use Rattle.pardo_job.proofs.compiler.start_values.Goals as goal

pub loop-array-preserved : goal.loop-array-preserved
loop-array-preserved c =
    values_more (λ (x : ArrayData). x.start) c.args.program.now.arrays
    c.arrays-array-items.result.now c.loop-array.array-index c.array-item.result []
    c.loop-array.values.items _ _ c.arrays-array-items.ensures c.loop-array-test.true
    c.array-item.is c.start.ensures c.loop-array.invariant
    c.in_ok-extend_from_slice.ensures.items

pub loop-variable-preserved : goal.loop-variable-preserved
loop-variable-preserved c =
    values_more (λ (x : PrivateData). x.start) c.args.program.now.privates
    c.privates-variable-items.result.now c.loop-variable.variable-index c.variable-item.result
    (flat_map (λ (x : ArrayData). x.start) c.args.program.now.arrays)
    c.loop-variable.values.items _ _ c.privates-variable-items.ensures c.loop-variable-test.true
    c.variable-item.is c.start-in-loop-variable.ensures c.loop-variable.invariant
    c.in_ok-extend_from_slice-2.ensures.items

pub returns : goal.returns
returns c =
    let program = c.args.program.now in
    let values = c.loop-variable.values.items in
    let cells = c.cells-2.result in
    let count = ap (λ (l : List PrivateData). length l) c.privates-variable-items.ensures in
    let given : values ≡ given_values program =
    values_all (λ (x : PrivateData). x.start) program.privates c.loop-variable.variable-index
    (flat_map (λ (x : ArrayData). x.start) program.arrays) values (omega (arith, count))
    c.loop-variable.invariant in
    start_is program values c.resize.new.self.items cells c.requires.lawful given
    (c.cells-2.ensures ∙ ap (λ (l : ProgramLayoutData). cell_count l) c.requires.layout)
    (c.in_ok-resize.ensures.items
    ∙ ap (λ (n : ℕ). take cells values ++ replicate (cells - n) 0) c.loop-variable.values.ok.0)
