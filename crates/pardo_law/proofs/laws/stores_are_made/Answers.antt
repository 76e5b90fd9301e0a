use Rattle.pardo_law.proofs.Running.{stores_are_made}
use Rattle.pardo_law.proofs.laws.stores_are_made.Goals as goal

pub returns : goal.returns
returns c = stores_are_made
