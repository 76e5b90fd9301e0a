use Rattle.pardo_text.proofs.LawConstants.{constants_are_numbers}
use Rattle.pardo_text.proofs.laws.constants_are_numbers.Goals as goal

pub returns : goal.returns
returns c = constants_are_numbers
