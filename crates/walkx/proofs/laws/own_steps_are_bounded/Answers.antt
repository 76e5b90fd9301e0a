use Rattle.walkx.proofs.BoundSteps.{own_steps}
use Rattle.walkx.proofs.laws.own_steps_are_bounded.Goals as goal

pub returns : goal.returns
returns c = own_steps
