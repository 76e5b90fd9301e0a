use Rattle.pram_words.proofs.NextPhases.{follows}
use Rattle.pram_words.proofs.laws.phases_follow.Goals as goal

pub returns : goal.returns
returns c = follows
