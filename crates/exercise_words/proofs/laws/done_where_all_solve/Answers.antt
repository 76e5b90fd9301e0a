use Rattle.exercise_words.proofs.Records.{done_where_all_solve}
use Rattle.exercise_words.proofs.laws.done_where_all_solve.Goals as goal

pub returns : goal.returns
returns g c = done_where_all_solve g.G.Giving.gives
