use Rattle.pram_world.proofs.Bounds.{every_body_is_bounded}
use Rattle.pram_world.proofs.laws.every_body_is_bounded.Goals as goal

pub returns : goal.returns
returns c = every_body_is_bounded
