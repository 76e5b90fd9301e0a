use Rattle.pram_text.proofs.LawSkipped.{skipped}
use Rattle.pram_text.proofs.laws.wordless_lines_are_skipped.Goals as goal

pub returns : goal.returns
returns c = skipped
