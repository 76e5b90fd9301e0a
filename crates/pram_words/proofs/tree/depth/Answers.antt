use Rattle.pram_words.proofs.Halvings.{depth_unique}
use Rattle.pram_words.proofs.tree.depth.Goals as goal

pub returns-clause-value : goal.returns-clause-value
returns-clause-value c =
    depth_unique _ _ c.ranges.n.fits c.ilog2.ensures.power_le c.ilog2.ensures.next_power_gt
