use Rattle.lawful_walk.proofs.Starting.{starts_stand}
use Rattle.lawful_walk.proofs.word_laws.start_words_are_lawful.Goals as goal

pub returns : goal.returns
returns c = starts_stand
