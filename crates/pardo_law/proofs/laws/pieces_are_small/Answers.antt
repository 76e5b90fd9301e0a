use Rattle.pardo_law.proofs.FlatLevel.{split_are_small}
use Rattle.pardo_law.proofs.laws.pieces_are_small.Goals as goal

pub returns : goal.returns
returns c = split_are_small
