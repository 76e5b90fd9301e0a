use Rattle.pram_world.proofs.Ahead.{some_go_ahead}
use Rattle.pram_world.proofs.laws.some_go_ahead.Goals as goal

pub returns : goal.returns
returns c = some_go_ahead
