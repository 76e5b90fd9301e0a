use Rattle.pram_step.proofs.Past.{written_value}
use Rattle.pram_step.proofs.laws.written_place_holds_the_value.Goals as goal

pub returns : goal.returns
returns c = written_value
