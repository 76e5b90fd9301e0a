use Rattle.lawful_walk.proofs.Places.{finished_held}
use Rattle.lawful_walk.proofs.word_laws.finished_steps_are_held.Goals as goal

pub returns : goal.returns
returns c = finished_held
