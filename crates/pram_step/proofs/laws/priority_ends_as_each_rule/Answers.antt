use Rattle.pram_step.proofs.LawAnswers.{priority_answers}
use Rattle.pram_step.proofs.laws.priority_ends_as_each_rule.Goals as goal

pub returns : goal.returns
returns c = priority_answers
