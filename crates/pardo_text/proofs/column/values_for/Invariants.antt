use Rattle.std.proofs.Common.{◌≡◌, drop}
use Rattle.pardo_text.specs.Inner.Columns.{column_after, columns_in}
use Rattle.pardo_text.specs.Values.{values_for}
use Rattle.pardo_text.proofs.column.values_for.Given as goal

abbrev pub invariant-loop-node : goal.invariant-loop-node
invariant-loop-node l = values_for l.procs l.expr
    ≡ column_after l.procs (drop l.node-index l.node-items) (columns_in l.columns.items)
