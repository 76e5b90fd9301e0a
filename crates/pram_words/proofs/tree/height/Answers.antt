use Rattle.pram_words.proofs.Halvings.{power_unique}
use Rattle.pram_words.proofs.tree.height.Goals as goal

pub returns-clause-power : goal.returns-clause-power
returns-clause-power c =
    power_unique _ _ c.requires c.depth.ensures.power_le c.depth.ensures.next_power_gt
