use Rattle.command_law.proofs.Answers.{plain_records}
use Rattle.command_law.proofs.laws.plain_records_the_programs_end.Goals as goal

pub returns : goal.returns
returns c = plain_records
