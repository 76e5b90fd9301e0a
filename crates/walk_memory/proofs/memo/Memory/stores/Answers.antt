use Rattle.std.proofs.Common.{arith}
use Rattle.walk_memory.proofs.Storing.{no_store}
use Rattle.walk_memory.proofs.memo.Memory.stores.Goals as goal

pub unreachable-requires : goal.unreachable-requires
unreachable-requires c =
    let at = c.args.leaf.now in
    let e = c.lanes_from-lanes.ensures in
    no_store at c.args.self.now (omega (arith, c.in-None.ensures.none, e.row))
    (c.requires.stores at.rank (omega arith) e.some)
