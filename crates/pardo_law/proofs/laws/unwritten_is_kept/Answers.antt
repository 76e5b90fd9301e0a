use Rattle.pardo_law.proofs.Ruling.{unwritten_is_kept}
use Rattle.pardo_law.proofs.laws.unwritten_is_kept.Goals as goal

pub returns : goal.returns
returns c = unwritten_is_kept
