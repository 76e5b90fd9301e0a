use Rattle.pram_step.proofs.LawStopped.{stopped_stays}
use Rattle.pram_step.proofs.laws.stopped_machine_stays.Goals as goal

pub returns : goal.returns
returns c = stopped_stays
