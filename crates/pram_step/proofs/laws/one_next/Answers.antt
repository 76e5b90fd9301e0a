use Rattle.pram_step.proofs.LawNext.{one_next}
use Rattle.pram_step.proofs.laws.one_next.Goals as goal

pub returns : goal.returns
returns c = one_next
