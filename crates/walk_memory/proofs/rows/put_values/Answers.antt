use Rattle.std.specs.Prelude.{slice_index}
use Rattle.walk_memory.proofs.InLanes.{row_puts}
use Rattle.walk_memory.proofs.rows.put_values.Goals as goal

pub returns : goal.returns
returns c =
    row_puts c.args.lanes.start c.args.lanes.end c.args.r (slice_index c.args.values.now)
    c.args.rows.now c.copy_in.new.to c.copy_in.ensures
