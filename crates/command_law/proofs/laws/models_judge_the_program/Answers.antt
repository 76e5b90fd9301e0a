use Rattle.command_law.proofs.Judging.{models_judge}
use Rattle.command_law.proofs.laws.models_judge_the_program.Goals as goal

pub returns : goal.returns
returns c = models_judge
