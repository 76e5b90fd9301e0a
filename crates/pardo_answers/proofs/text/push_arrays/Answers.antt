use Rattle.std.specs.Prelude.{slice_index}
use Rattle.pardo_job.specs.Printed.{array_lines}
use Rattle.pardo_answers.proofs.Ranges.{list_told}
use Rattle.pardo_answers.proofs.text.push_arrays.Goals as goal

pub loop-array-preserved : goal.loop-array-preserved
loop-array-preserved c =
    list_told (array_lines (slice_index c.args.cells.now)) c.loop-array.text.items
    c.push_array.new.text.items _ c.args.arrays.now c.loop-array.array-index c.array-item.result
    c.loop-array-test.true c.array-item.is c.in_ok-push_array.ensures c.loop-array.invariant
