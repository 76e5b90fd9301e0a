use Rattle.pardo_answers.proofs.LawAnswers.{printed_answers_are_the_programs}
use Rattle.pardo_answers.proofs.laws.printed_answers_are_the_programs.Goals as goal

pub returns : goal.returns
returns c = printed_answers_are_the_programs
