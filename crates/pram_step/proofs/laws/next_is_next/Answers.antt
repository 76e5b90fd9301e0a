use Rattle.pram_step.proofs.LawNext.{next_is_next}
use Rattle.pram_step.proofs.laws.next_is_next.Goals as goal

pub returns : goal.returns
returns c = next_is_next
