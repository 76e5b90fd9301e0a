use Rattle.std.proofs.Common.{arith}
use Rattle.walk_memory.proofs.Ranks.{below_length, within_grain}
use Rattle.walk_memory.proofs.row_walk.lanes_from.Goals as goal

pub lanes_to-requires-clause-later : goal.lanes_to-requires-clause-later
lanes_to-requires-clause-later c =
    omega (arith, below_length c.args.leaf.now c.args.len c.job.ensures.limits c.requires)

pub lanes_to-requires-clause-within : goal.lanes_to-requires-clause-within
lanes_to-requires-clause-within c =
    within_grain c.args.leaf.now c.args.len c.job.ensures.limits c.requires

pub returns-clause-some : goal.returns-clause-some
returns-clause-some c =
    below_length c.args.leaf.now c.args.len c.job.ensures.limits c.requires
