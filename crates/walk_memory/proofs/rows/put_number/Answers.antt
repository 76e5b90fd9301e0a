use Rattle.walk_memory.proofs.InLanes.{row_puts}
use Rattle.walk_memory.proofs.rows.put_number.Goals as goal

pub returns : goal.returns
returns c =
    row_puts c.args.lanes.start c.args.lanes.end c.args.r (λ k. c.args.number) c.args.registers.now
    c.set_in.new.to c.set_in.ensures
