use Rattle.pram_step.proofs.LawAnswer.{conflict_after}
use Rattle.pram_step.proofs.laws.conflict_excludes_final.Goals as goal

pub returns : goal.returns
returns c = conflict_after
