use Rattle.pardo_law.proofs.Idling.{idling_stays}
use Rattle.pardo_law.proofs.laws.idling_stays.Goals as goal

pub returns : goal.returns
returns c = idling_stays
