use Rattle.pram_text.proofs.LawOneFault.{spelled_bears_none}
use Rattle.pram_text.proofs.laws.spelled_bears_nothing.Goals as goal

pub returns : goal.returns
returns c = spelled_bears_none
