use Rattle.pardo_text.proofs.LawSaying.{empty_lines_say_nothing}
use Rattle.pardo_text.proofs.laws.empty_lines_say_nothing.Goals as goal

pub returns : goal.returns
returns c = empty_lines_say_nothing
