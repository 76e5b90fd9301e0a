use Rattle.pram_step.proofs.LawAnswer.{one_dispute}
use Rattle.pram_step.proofs.laws.one_dispute.Goals as goal

pub returns : goal.returns
returns c = one_dispute
