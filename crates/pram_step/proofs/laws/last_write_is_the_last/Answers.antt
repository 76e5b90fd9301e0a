use Rattle.pram_step.proofs.Past.{last_write_is}
use Rattle.pram_step.proofs.laws.last_write_is_the_last.Goals as goal

pub returns : goal.returns
returns c = last_write_is
