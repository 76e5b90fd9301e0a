use Rattle.pram_words.proofs.Ways.{begins_at_leaf}
use Rattle.pram_words.proofs.laws.workers_begin_at_leaves.Goals as goal

pub returns : goal.returns
returns c = begins_at_leaf
