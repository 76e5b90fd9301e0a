use Rattle.pardo_law.proofs.Stepping.{each_by_itself}
use Rattle.pardo_law.proofs.laws.each_by_itself.Goals as goal

pub returns : goal.returns
returns c = each_by_itself
