use Rattle.lawful_walk.proofs.Sounding.{was_part}
use Rattle.lawful_walk.proofs.walk_laws.conflict_requests_are_held.Goals as goal

pub returns : goal.returns
returns c = was_part
