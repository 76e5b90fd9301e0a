use Rattle.lawful_walk.proofs.Sounding.{was_place}
use Rattle.lawful_walk.proofs.walk_laws.final_values_are_held.Goals as goal

pub returns : goal.returns
returns c = was_place
