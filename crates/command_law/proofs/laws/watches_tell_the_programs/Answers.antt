use Rattle.command_law.proofs.Watches.{watches_tell}
use Rattle.command_law.proofs.laws.watches_tell_the_programs.Goals as goal

pub returns : goal.returns
returns c = watches_tell
