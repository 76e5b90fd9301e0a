use Rattle.stop_plan.proofs.Living.{random_spares_one}
use Rattle.stop_plan.proofs.random_laws.random_spares_one.Goals as goal

pub returns : goal.returns
returns c = random_spares_one
