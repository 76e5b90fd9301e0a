use Rattle.pardo_text.proofs.LawLongest.{tokens_are_longest}
use Rattle.pardo_text.proofs.laws.tokens_are_longest.Goals as goal

pub returns : goal.returns
returns c = tokens_are_longest
