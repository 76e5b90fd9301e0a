use Rattle.std.proofs.Common.{◌∙◌, ap, sym, Ok}
use Rattle.std.proofs.lemmas.Result.{err_from_is_err_and}
use Rattle.pardo_text.specs.Inner.Columns.{column_after, columns_in}
use Rattle.pardo_text.proofs.Columns.{column_after-tree, column_after-next, column_after-fault}
use Rattle.pardo_text.proofs.Columns.{column_after-all}
use Rattle.pardo_text.proofs.column.values_for.Goals as goal

pub loop-node-init : goal.loop-node-init
loop-node-init c =
    column_after-tree c.args.procs c.args.expr.now c.nodes-node-items.result.now
    c.nodes-node-items.ensures
    ∙ ap (λ columns. column_after c.args.procs c.nodes-node-items.result.now (columns_in columns))
    (sym c.new-columns.ensures.items)

pub returns-in_err-take_node : goal.returns-in_err-take_node
returns-in_err-take_node c =
    let p = err_from_is_err_and c.from_residual-in_err-take_node.result
    c.from_residual-in_err-take_node.ensures.1 in
    rw (p.1, p.2) (λ ne. c.loop-node.invariant
    ∙ column_after-fault _ _ _ _ _ _ c.loop-node-test.true (c.in_err-take_node.ensures ne))

pub loop-node-preserved : goal.loop-node-preserved
loop-node-preserved c = c.loop-node.invariant
    ∙ column_after-next _ _ _ _ _ _ c.loop-node-test.true c.in_ok-take_node.ensures

pub returns : goal.returns
returns c = c.loop-node.invariant
    ∙ column_after-all _ _ _ _ c.loop-node-test.false ∙ ap Ok (sym c.top.ensures.column)
