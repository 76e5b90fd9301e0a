use Rattle.pram_text.proofs.LawLines.{have_lines}
use Rattle.pram_text.proofs.laws.instructions_have_lines.Goals as goal

pub returns : goal.returns
returns c = have_lines
