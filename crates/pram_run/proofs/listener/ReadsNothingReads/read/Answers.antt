use Rattle.pram_run.proofs.Endings.{goes_self}
use Rattle.pram_run.proofs.listener.ReadsNothingReads.read.Goals as goal

pub returns-clause-goes_on : goal.returns-clause-goes_on
returns-clause-goes_on g c = goes_self _
