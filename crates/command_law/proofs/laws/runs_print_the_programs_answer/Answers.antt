use Rattle.command_law.proofs.Answers.{runs_print}
use Rattle.command_law.proofs.laws.runs_print_the_programs_answer.Goals as goal

pub returns : goal.returns
returns c = runs_print
