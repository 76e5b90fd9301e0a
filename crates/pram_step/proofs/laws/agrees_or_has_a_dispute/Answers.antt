use Rattle.pram_step.proofs.LawDisputes.{agrees_or_dispute}
use Rattle.pram_step.proofs.laws.agrees_or_has_a_dispute.Goals as goal

pub returns : goal.returns
returns c = agrees_or_dispute
