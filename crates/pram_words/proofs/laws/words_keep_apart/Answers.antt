use Rattle.pram_words.proofs.Numbering.{numbering}
use Rattle.pram_words.proofs.laws.words_keep_apart.Goals as goal

pub returns : goal.returns
returns c = numbering
