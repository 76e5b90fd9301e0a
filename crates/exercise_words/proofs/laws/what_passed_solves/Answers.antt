use Rattle.exercise_words.proofs.Records.{what_passed_solves}
use Rattle.exercise_words.proofs.laws.what_passed_solves.Goals as goal

pub returns : goal.returns
returns c = what_passed_solves
