use Rattle.pram_step.proofs.Past.{writes_are}
use Rattle.pram_step.proofs.laws.processors_write_their_requests.Goals as goal

pub returns : goal.returns
returns c = writes_are
