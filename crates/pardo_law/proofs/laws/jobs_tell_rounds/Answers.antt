use Rattle.pardo_law.proofs.Rounds.{jobs_tell_rounds}
use Rattle.pardo_law.proofs.laws.jobs_tell_rounds.Goals as goal

pub returns : goal.returns
returns c = jobs_tell_rounds
