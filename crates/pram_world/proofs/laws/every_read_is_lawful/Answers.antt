use Rattle.pram_world.proofs.Observing.{every_read_is_lawful}
use Rattle.pram_world.proofs.laws.every_read_is_lawful.Goals as goal

pub returns : goal.returns
returns c = every_read_is_lawful
