use Rattle.pram_text.proofs.LawSkipped.{blanks}
use Rattle.pram_text.proofs.laws.blanks_say_nothing.Goals as goal

pub returns : goal.returns
returns c = blanks
