use Rattle.pram_text.proofs.LawSkipped.{comments}
use Rattle.pram_text.proofs.laws.comments_say_nothing.Goals as goal

pub returns : goal.returns
returns c = comments
