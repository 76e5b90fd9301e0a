use Rattle.pram_step.proofs.LawFixed.{next_after}
use Rattle.pram_step.proofs.laws.next_is_a_state.Goals as goal

pub returns : goal.returns
returns c = next_after
