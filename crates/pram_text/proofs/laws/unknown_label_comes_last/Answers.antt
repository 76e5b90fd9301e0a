use Rattle.pram_text.proofs.LawEveryText.{label_comes_last}
use Rattle.pram_text.proofs.laws.unknown_label_comes_last.Goals as goal

pub returns : goal.returns
returns c = label_comes_last
