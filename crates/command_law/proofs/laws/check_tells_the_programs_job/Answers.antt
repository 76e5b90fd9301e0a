use Rattle.command_law.proofs.Jobs.{check_tells}
use Rattle.command_law.proofs.laws.check_tells_the_programs_job.Goals as goal

pub returns : goal.returns
returns c = check_tells
