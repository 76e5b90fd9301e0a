use Rattle.pardo_text.proofs.LawLg.{lg_is_least}
use Rattle.pardo_text.proofs.laws.lg_is_least.Goals as goal

pub returns : goal.returns
returns c = lg_is_least
