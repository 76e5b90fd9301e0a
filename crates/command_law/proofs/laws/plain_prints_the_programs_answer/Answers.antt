use Rattle.command_law.proofs.Answers.{plain_prints}
use Rattle.command_law.proofs.laws.plain_prints_the_programs_answer.Goals as goal

pub returns : goal.returns
returns c = plain_prints
