use Rattle.command_law.proofs.Rows.{steps_tell}
use Rattle.command_law.proofs.laws.steps_tell_the_programs_lines.Goals as goal

pub returns : goal.returns
returns c = steps_tell
