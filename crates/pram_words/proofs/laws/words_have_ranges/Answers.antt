use Rattle.pram_words.proofs.Numbering.{ranges}
use Rattle.pram_words.proofs.laws.words_have_ranges.Goals as goal

pub returns : goal.returns
returns c = ranges
