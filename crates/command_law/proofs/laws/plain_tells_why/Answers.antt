use Rattle.command_law.proofs.Whys.{plain_tells_why}
use Rattle.command_law.proofs.laws.plain_tells_why.Goals as goal

pub returns : goal.returns
returns c = plain_tells_why
