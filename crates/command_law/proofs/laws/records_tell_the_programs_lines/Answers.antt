use Rattle.command_law.proofs.Costs.{records_tell}
use Rattle.command_law.proofs.laws.records_tell_the_programs_lines.Goals as goal

pub returns : goal.returns
returns c = records_tell
