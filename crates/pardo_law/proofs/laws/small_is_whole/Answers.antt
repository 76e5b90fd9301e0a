use Rattle.pardo_law.proofs.FlatLevel.{split_small}
use Rattle.pardo_law.proofs.laws.small_is_whole.Goals as goal

pub returns : goal.returns
returns c = split_small
