use Rattle.pardo_text.proofs.SetInPlace.{set_lines_stay}
use Rattle.pardo_text.proofs.laws.set_lines_stay.Goals as goal

pub returns : goal.returns
returns c = set_lines_stay
