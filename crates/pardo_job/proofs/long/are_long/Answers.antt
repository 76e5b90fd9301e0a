use Rattle.std.proofs.Common.{arith}
use Rattle.std.proofs.lemmas.Bool.{ltb-true}
use Rattle.pardo_job.proofs.Great.{long_bounds}
use Rattle.pardo_job.proofs.long.are_long.Goals as goal

pub returns : goal.returns
returns c = λ many layout. long_bounds layout c.args.first.now c.args.second.now
    c.nodes.result.now c.nodes-2.result.now c.saturating_add-count.result c.nodes.ensures
    c.nodes-2.ensures (omega (arith, c.saturating_add-count.ensures))
    (ltb-true 8194 c.saturating_add-count.result many)
