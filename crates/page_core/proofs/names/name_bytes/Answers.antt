use Rattle.std.proofs.Common.{[]}
use Rattle.std.specs.List.{flat_map}
use Rattle.pardo_program.specs.Program.{ArrayData, PrivateData}
use Rattle.page_core.proofs.Telling.{bytes_more}
use Rattle.page_core.proofs.names.name_bytes.Goals as goal

pub loop-array-preserved : goal.loop-array-preserved
loop-array-preserved c =
    bytes_more (λ (a : ArrayData). a.name) c.args.arrays.now c.loop-array.array-index
    c.array-item.result
    c.name.result.now [] c.loop-array.names.items
    c.extend_from_slice.new.self.items c.loop-array-test.true c.array-item.is c.name.ensures
    c.loop-array.invariant c.in_ok-extend_from_slice.ensures.items

pub loop-variable-preserved : goal.loop-variable-preserved
loop-variable-preserved c =
    bytes_more (λ (v : PrivateData). v.name) c.args.privates.now
    c.loop-variable.variable-index c.variable-item.result
    c.name-in-loop-variable.result.now
    (flat_map (λ (a : ArrayData). a.name) c.args.arrays.now)
    c.loop-variable.names.items
    c.extend_from_slice-in-loop-variable.new.self.items c.loop-variable-test.true
    c.variable-item.is c.name-in-loop-variable.ensures
    c.loop-variable.invariant c.in_ok-extend_from_slice-2.ensures.items
