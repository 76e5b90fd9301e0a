use Rattle.pardo_text.proofs.LawReading.{first_bad_line}
use Rattle.pardo_text.proofs.laws.first_bad_line.Goals as goal

pub returns : goal.returns
returns c = first_bad_line
