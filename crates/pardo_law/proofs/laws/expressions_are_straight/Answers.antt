use Rattle.pardo_law.proofs.Straightness.{expressions_are_straight}
use Rattle.pardo_law.proofs.laws.expressions_are_straight.Goals as goal

pub returns : goal.returns
returns c = expressions_are_straight
