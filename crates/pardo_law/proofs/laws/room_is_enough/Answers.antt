use Rattle.pardo_law.proofs.FlatLevel.{room_is_enough}
use Rattle.pardo_law.proofs.laws.room_is_enough.Goals as goal

pub returns : goal.returns
returns c = room_is_enough
