use Rattle.std.proofs.Common.{length}
use Rattle.std.proofs.lemmas.Bool.{ltb-true}
use Rattle.pardo_job.proofs.Great.{long_code}
use Rattle.pardo_job.proofs.long.is_long.Goals as goal

pub returns : goal.returns
returns c = λ many layout at. long_code layout at c.args.expr.now c.nodes.result.now
    c.nodes.ensures (ltb-true 8193 (length c.nodes.result.now) many)
