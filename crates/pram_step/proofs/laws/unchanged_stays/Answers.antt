use Rattle.pram_step.proofs.LawFixed.{unchanged_later}
use Rattle.pram_step.proofs.laws.unchanged_stays.Goals as goal

pub returns : goal.returns
returns c = unchanged_later
