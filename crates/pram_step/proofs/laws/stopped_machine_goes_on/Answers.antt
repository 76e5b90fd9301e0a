use Rattle.pram_step.proofs.LawStopped.{stopped_later}
use Rattle.pram_step.proofs.laws.stopped_machine_goes_on.Goals as goal

pub returns : goal.returns
returns c = stopped_later
