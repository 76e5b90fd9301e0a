use Rattle.pram_step.proofs.LawDisputes.{reached_where}
use Rattle.pram_step.proofs.laws.reached_where_nothing_is_disputed.Goals as goal

pub returns : goal.returns
returns c = reached_where
