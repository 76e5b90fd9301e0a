use Rattle.std.proofs.Common.{◌∙◌, ◌++◌, ℕ, List, ap₂, sym}
use Rattle.std.proofs.lemmas.Result.{IfOk-weaker}
use Rattle.pardo_answers.proofs.Cells.{cell_here}
use Rattle.pardo_answers.proofs.text.push_cell.Goals as goal

pub returns-then-has_cell : goal.returns-then-has_cell
returns-then-has_cell c =
    let place = cell_here c.args.arrays.now c.loop-array.array-index c.args.cell
    c.array-item.result c.loop-array-test.true c.array-item.is
    (sym c.has_cell.ensures ∙ c.if-has_cell.true) c.loop-array.invariant.none in
    IfOk-weaker c.push_place.result _ _ (λ done put.
    put ∙ ap₂ (λ (l m : List ℕ). l ++ m) c.loop-array.invariant.same (sym place))
    c.push_place.ensures
