use Rattle.pardo_law.proofs.Answering.{answers_are_the_programs}
use Rattle.pardo_law.proofs.laws.answers_are_the_programs.Goals as goal

pub returns : goal.returns
returns c = answers_are_the_programs
