use Rattle.pardo_law.proofs.Between.{lines_never_fall}
use Rattle.pardo_law.proofs.laws.lines_never_fall.Goals as goal

pub returns : goal.returns
returns c = lines_never_fall
