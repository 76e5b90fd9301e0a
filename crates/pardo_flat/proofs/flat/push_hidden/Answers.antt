use Rattle.std.proofs.Common.{◌∙◌}
use Rattle.pardo_flat.proofs.Flats.{hidden_step}
use Rattle.pardo_flat.proofs.flat.push_hidden.Goals as goal

pub loop-index-preserved : goal.loop-index-preserved
loop-index-preserved c =
    hidden_step c.args.line.now c.args.base c.loop-index.index c.args.pieces.now
    c.index-pieces-index.result c.in_ok-value.value _ c.in_ok-giving.field-0 _ _ _
    c.loop-index-test.true (c.in_ok-value.ensures ∙ c.index-pieces-index.is)
    c.is_common-common.ensures c.in_ok-giving.ensures c.loop-index.invariant
    c.in_ok-push.ensures.items
