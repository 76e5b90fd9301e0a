use Rattle.std.proofs.Common.{sym}
use Rattle.walk_memory.proofs.row_walk.stand_from.Goals as goal

pub returns-then-at-start-clause-there : goal.returns-then-at-start-clause-there
returns-then-at-start-clause-there c = λ k from to. sym (c.requires c.if-at-start.true k from to)
