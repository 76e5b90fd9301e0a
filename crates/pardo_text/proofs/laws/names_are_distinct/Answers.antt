use Rattle.pardo_text.proofs.LawNames.{names_are_distinct}
use Rattle.pardo_text.proofs.laws.names_are_distinct.Goals as goal

pub returns : goal.returns
returns c = names_are_distinct
