use Rattle.walkx.proofs.Fitting.{new_workers_fit}
use Rattle.walkx.proofs.laws.new_workers_fit.Goals as goal

pub returns : goal.returns
returns c = new_workers_fit
