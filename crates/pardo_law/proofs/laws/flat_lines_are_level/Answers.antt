use Rattle.pardo_law.proofs.FlatLineLevels.{flat_level}
use Rattle.pardo_law.proofs.laws.flat_lines_are_level.Goals as goal

pub returns : goal.returns
returns c = flat_level
