use Rattle.lawful_walk.proofs.Turns.{workers_keep}
use Rattle.lawful_walk.proofs.walk_laws.worker_keeps_words_lawful.Goals as goal

pub returns : goal.returns
returns c = workers_keep
