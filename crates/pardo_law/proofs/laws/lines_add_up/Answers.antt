use Rattle.pardo_law.proofs.Summing.{lines_add_up}
use Rattle.pardo_law.proofs.laws.lines_add_up.Goals as goal

pub returns : goal.returns
returns c = lines_add_up
