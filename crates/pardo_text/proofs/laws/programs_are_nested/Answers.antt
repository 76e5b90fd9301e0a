use Rattle.pardo_text.proofs.LawNesting.{programs_are_nested}
use Rattle.pardo_text.proofs.laws.programs_are_nested.Goals as goal

pub returns : goal.returns
returns c = programs_are_nested
