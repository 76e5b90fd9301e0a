use Rattle.pardo_answers.proofs.LawAnswers.{recorded_answers_are_the_programs}
use Rattle.pardo_answers.proofs.laws.recorded_answers_are_the_programs.Goals as goal

pub returns : goal.returns
returns c = recorded_answers_are_the_programs
