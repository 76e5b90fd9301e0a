use Rattle.lawful_walk.proofs.Sounding.{sound_known}
use Rattle.lawful_walk.proofs.walk_laws.known_steps_are_reached.Goals as goal

pub returns : goal.returns
returns c = sound_known
