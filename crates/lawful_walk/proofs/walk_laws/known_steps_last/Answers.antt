use Rattle.lawful_walk.proofs.Staying.{known_last}
use Rattle.lawful_walk.proofs.walk_laws.known_steps_last.Goals as goal

pub returns : goal.returns
returns c = known_last
