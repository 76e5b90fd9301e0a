use Rattle.lawful_walk.proofs.Staying.{known_stays}
use Rattle.lawful_walk.proofs.walk_laws.known_workers_stay_known.Goals as goal

pub returns : goal.returns
returns c = known_stays
