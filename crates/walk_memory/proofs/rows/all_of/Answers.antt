use Rattle.std.proofs.lemmas.List.{get_or-replicate}
use Rattle.walk_memory.proofs.rows.all_of.Goals as goal

pub returns : goal.returns
returns c = λ k from to. get_or-replicate 64 k c.args.number 0 to
