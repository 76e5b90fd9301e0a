use Rattle.pram_step.proofs.Past.{asks_fit}
use Rattle.pram_step.proofs.laws.writes_fit.Goals as goal

pub returns : goal.returns
returns c = asks_fit
