use Rattle.command_law.proofs.Rows.{traces_tell}
use Rattle.command_law.proofs.laws.traces_tell_the_programs_lines.Goals as goal

pub returns : goal.returns
returns c = traces_tell
