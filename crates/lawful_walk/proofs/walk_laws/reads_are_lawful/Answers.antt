use Rattle.lawful_walk.proofs.Sounding.{was_read}
use Rattle.lawful_walk.proofs.walk_laws.reads_are_lawful.Goals as goal

pub returns : goal.returns
returns c = was_read
