use Rattle.pardo_law.proofs.Ruling.{crew_is_accepted}
use Rattle.pardo_law.proofs.laws.crew_is_accepted.Goals as goal

pub returns : goal.returns
returns c = crew_is_accepted
