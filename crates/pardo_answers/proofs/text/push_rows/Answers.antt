use Rattle.std.proofs.Common.{◌+◌, arith}
use Rattle.std.specs.Prelude.{slice_index}
use Rattle.pardo_job.specs.Printed.{row_line}
use Rattle.pardo_answers.proofs.Ranges.{range_told}
use Rattle.pardo_answers.proofs.text.push_rows.Goals as goal

pub loop-row-preserved : goal.loop-row-preserved
loop-row-preserved c =
    range_told (row_line (slice_index c.args.cells.now) c.args.array.now c.args.width)
    c.loop-row.text.items c.push_row.new.text.items _ c.loop-row.row _ _ _ (omega arith)
    (omega arith) c.in_ok-push_row.ensures c.loop-row.invariant
