use Rattle.pardo_job.proofs.Meanings.{loops_are_common}
use Rattle.pardo_job.proofs.laws.loops_are_common.Goals as goal

pub returns : goal.returns
returns c = loops_are_common
