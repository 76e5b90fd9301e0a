use Rattle.walkx.proofs.Knowing.{stay_known}
use Rattle.walkx.proofs.laws.known_stay_known.Goals as goal

pub returns : goal.returns
returns c = stay_known
