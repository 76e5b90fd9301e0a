use Rattle.pardo_law.proofs.FlatBetween.{jobs_go_through}
use Rattle.pardo_law.proofs.laws.jobs_go_through.Goals as goal

pub returns : goal.returns
returns c = jobs_go_through
