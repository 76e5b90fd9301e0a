use Rattle.command_law.proofs.Swept.{sweeps_tell}
use Rattle.command_law.proofs.laws.sweeps_tell_the_programs_runs.Goals as goal

pub returns : goal.returns
returns c = sweeps_tell
