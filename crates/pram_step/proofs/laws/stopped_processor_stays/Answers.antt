use Rattle.pram_step.proofs.LawCounters.{stopped_processor}
use Rattle.pram_step.proofs.laws.stopped_processor_stays.Goals as goal

pub returns : goal.returns
returns c = stopped_processor
