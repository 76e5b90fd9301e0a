use Rattle.exercise_words.proofs.Solving.{what_is_solved_is_met}
use Rattle.exercise_words.proofs.laws.what_is_solved_is_met.Goals as goal

pub returns : goal.returns
returns c = what_is_solved_is_met
