use Rattle.page_core.specs.Programs.{shared_row}
use Rattle.page_core.proofs.Telling.{rows_more}
use Rattle.page_core.proofs.names.push_shared_rows.Goals as goal

pub loop-array-preserved : goal.loop-array-preserved
loop-array-preserved c =
    rows_more shared_row c.args.arrays.now c.loop-array.array-index c.array-item.result
    c.shared_row.result c.args.rows.now.items c.loop-array.rows.items c.push.new.self.items
    c.loop-array-test.true c.array-item.is c.shared_row.ensures c.loop-array.invariant
    c.in_ok-push.ensures.items
