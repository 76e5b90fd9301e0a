use Rattle.pardo_text.proofs.LawReading.{lines_are_what_they_say}
use Rattle.pardo_text.proofs.laws.lines_are_what_they_say.Goals as goal

pub returns : goal.returns
returns c = lines_are_what_they_say
