use Rattle.std.proofs.Common.{◌+◌}
use Rattle.walk_memory.proofs.InLanes.{row_puts}
use Rattle.walk_memory.proofs.rows.put_processor.Goals as goal

pub returns : goal.returns
returns c =
    row_puts c.args.lanes.start c.args.lanes.end c.args.r (λ k. c.args.lanes.first + k)
    c.args.registers.now c.number_in.new.to c.number_in.ensures
