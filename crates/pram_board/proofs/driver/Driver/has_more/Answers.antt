use Rattle.std.proofs.Common.{◌<◌, suc, arith}
use Rattle.pram_board.proofs.Tasks.{leaf_at}
use Rattle.pram_board.proofs.driver.Driver.has_more.Goals as goal

pub next-requires-clause-leaf : goal.next-requires-clause-leaf
next-requires-clause-leaf g c =
    let at = c.args.leaf.now in
    let more : suc at.rank < c.args.len = omega (arith, c.rank.ensures, c.if-rank-len.true) in
    leaf_at at c.args.len (suc at.rank) c.requires.at.leaf c.requires.at.ranks more
