use Rattle.pram_world.proofs.Interleaving.{every_interleaving}
use Rattle.pram_world.proofs.laws.every_interleaving.Goals as goal

pub returns : goal.returns
returns c = every_interleaving
