use Rattle.pram_step.proofs.LawAnswers.{steps_state_after}
use Rattle.pram_step.proofs.laws.longer_job_goes_on.Goals as goal

pub returns : goal.returns
returns c = steps_state_after
