use Rattle.command_law.proofs.Costs.{costs_tell}
use Rattle.command_law.proofs.laws.costs_tell_the_programs_lines.Goals as goal

pub returns : goal.returns
returns c = costs_tell
