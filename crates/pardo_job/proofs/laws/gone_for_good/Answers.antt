use Rattle.pardo_job.proofs.Meanings.{gone_for_good}
use Rattle.pardo_job.proofs.laws.gone_for_good.Goals as goal

pub returns : goal.returns
returns c = gone_for_good
