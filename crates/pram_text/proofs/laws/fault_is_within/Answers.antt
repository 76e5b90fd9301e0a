use Rattle.pram_text.proofs.LawSkipped.{fault_is_within}
use Rattle.pram_text.proofs.laws.fault_is_within.Goals as goal

pub returns : goal.returns
returns c = fault_is_within
