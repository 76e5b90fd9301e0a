use Rattle.std.proofs.Common.{◌∙◌, arith}
use Rattle.pardo_text.proofs.Columns.{each_done}
use Rattle.pardo_text.proofs.column.apply_each.Goals as goal

pub returns : goal.returns
returns c = c.loop-k.invariant
    ∙ each_done c.args.op c.loop-k.values c.args.others.now c.loop-k.k (omega arith)
