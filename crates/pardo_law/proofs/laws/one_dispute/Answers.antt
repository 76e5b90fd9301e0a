use Rattle.pardo_law.proofs.Ruling.{one_dispute}
use Rattle.pardo_law.proofs.laws.one_dispute.Goals as goal

pub returns : goal.returns
returns c = one_dispute
