use Rattle.walkx.proofs.Asking.{going_steps}
use Rattle.walkx.proofs.laws.who_is_going_steps.Goals as goal

pub returns : goal.returns
returns c = going_steps
