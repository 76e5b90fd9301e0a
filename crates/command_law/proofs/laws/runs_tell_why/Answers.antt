use Rattle.command_law.proofs.Whys.{runs_tell_why}
use Rattle.command_law.proofs.laws.runs_tell_why.Goals as goal

pub returns : goal.returns
returns c = runs_tell_why
