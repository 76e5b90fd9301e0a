use Rattle.lawful_walk.proofs.Landings.{settled_tells}
use Rattle.lawful_walk.proofs.word_laws.settled_words_tell.Goals as goal

pub returns : goal.returns
returns c = λ form job t place limits below. settled_tells form job limits t place below
