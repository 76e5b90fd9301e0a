use Rattle.command_law.proofs.Answers.{runs_record}
use Rattle.command_law.proofs.laws.runs_record_the_programs_end.Goals as goal

pub returns : goal.returns
returns c = runs_record
