use Rattle.pram_cost.proofs.Ending.{length_disputed, length_through}
use Rattle.pram_cost.proofs.cost.conflict_of.Goals as goal

pub returns-in-Through : goal.returns-in-Through
returns-in-Through c = λ job walk. length_through job _ _ c.in-Through.is walk

pub returns-in-Disputed : goal.returns-in-Disputed
returns-in-Disputed c = λ job walk. length_disputed job _ _ c.in-Disputed.is walk
