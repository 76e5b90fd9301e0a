use Rattle.pram_words.proofs.Starts.{starts_admitted}
use Rattle.pram_words.proofs.laws.words_start_admitted.Goals as goal

pub returns : goal.returns
returns c = starts_admitted
