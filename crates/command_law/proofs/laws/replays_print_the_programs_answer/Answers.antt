use Rattle.command_law.proofs.Replays.{replays_print}
use Rattle.command_law.proofs.laws.replays_print_the_programs_answer.Goals as goal

pub returns : goal.returns
returns c = replays_print
