use Rattle.pardo_text.proofs.LawSaying.{indentation_says_nothing}
use Rattle.pardo_text.proofs.laws.indentation_says_nothing.Goals as goal

pub returns : goal.returns
returns c = indentation_says_nothing
