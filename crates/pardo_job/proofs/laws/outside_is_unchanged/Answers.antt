use Rattle.pardo_job.proofs.Meanings.{outside_is_unchanged}
use Rattle.pardo_job.proofs.laws.outside_is_unchanged.Goals as goal

pub returns : goal.returns
returns c = outside_is_unchanged
