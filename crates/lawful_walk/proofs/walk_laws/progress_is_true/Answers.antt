use Rattle.lawful_walk.proofs.Sounding.{was_progress}
use Rattle.lawful_walk.proofs.walk_laws.progress_is_true.Goals as goal

pub returns : goal.returns
returns c = was_progress
