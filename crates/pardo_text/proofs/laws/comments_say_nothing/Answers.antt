use Rattle.pardo_text.proofs.LawSaying.{comments_say_nothing}
use Rattle.pardo_text.proofs.laws.comments_say_nothing.Goals as goal

pub returns : goal.returns
returns c = comments_say_nothing
