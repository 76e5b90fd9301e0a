use Rattle.exercise_words.proofs.Solving.{what_is_met_is_solved}
use Rattle.exercise_words.proofs.laws.what_is_met_is_solved.Goals as goal

pub returns : goal.returns
returns c = what_is_met_is_solved
