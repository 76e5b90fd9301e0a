use Rattle.pardo_text.proofs.LawReading.{all_lines_are_taken}
use Rattle.pardo_text.proofs.laws.all_lines_are_taken.Goals as goal

pub returns : goal.returns
returns c = all_lines_are_taken
