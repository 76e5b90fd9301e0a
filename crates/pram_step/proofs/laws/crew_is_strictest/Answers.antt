use Rattle.pram_step.proofs.LawAnswers.{crew_state}
use Rattle.pram_step.proofs.laws.crew_is_strictest.Goals as goal

pub returns : goal.returns
returns c = crew_state
