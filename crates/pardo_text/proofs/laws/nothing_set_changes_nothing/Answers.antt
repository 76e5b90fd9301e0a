use Rattle.pardo_text.proofs.SetLines.{nothing_set_changes_nothing}
use Rattle.pardo_text.proofs.laws.nothing_set_changes_nothing.Goals as goal

pub returns : goal.returns
returns c = nothing_set_changes_nothing
