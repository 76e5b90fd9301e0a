use Rattle.pram_step.proofs.LawAnswers.{crew_answers}
use Rattle.pram_step.proofs.laws.crew_ends_as_each_rule.Goals as goal

pub returns : goal.returns
returns c = crew_answers
