use Rattle.std.proofs.Common.{arith}
use Rattle.pram_board.proofs.Tasks.{leaf_at}
use Rattle.pram_board.proofs.driver.Driver.plain_by.Goals as goal

pub plain_all-last-requires-clause-plain : goal.plain_all-last-requires-clause-plain
plain_all-last-requires-clause-plain g c = rw c.again.ensures c.requires.plain

pub remember-requires-clause-leaf : goal.remember-requires-clause-leaf
remember-requires-clause-leaf g c =
    leaf_at c.args.leaf.now c.args.len c.plain_all-last.result.0 c.requires.at.leaf
    c.requires.at.ranks c.plain_all-last.ensures.done.within

pub remember-requires-clause-plain : goal.remember-requires-clause-plain
remember-requires-clause-plain g c = λ rank from to.
    c.requires.plain rank from (omega (arith, to, c.plain_all-last.ensures.done.within))
