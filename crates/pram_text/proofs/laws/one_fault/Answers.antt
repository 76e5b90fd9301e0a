use Rattle.pram_text.proofs.LawOneFault.{bears_once}
use Rattle.pram_text.proofs.laws.one_fault.Goals as goal

pub returns : goal.returns
returns c = bears_once
