use Rattle.std.proofs.Common.{◌≡◌, ◌∙◌, ◌++◌, ◌∷◌, [], ◌+◌, ◌-◌, ℕ, List, ap, sym, arith}
use Rattle.std.proofs.Common.{append_assoc, append-nil, vec_items}
use Rattle.std.specs.List.{range_with_len}
use Rattle.naming.proofs.Cells.{range_more}
use Rattle.naming.proofs.cell_list.push_cells.Goals as goal

pub loop-cell-init : goal.loop-cell-init
loop-cell-init c =
    let first = c.args.cells.first in
    let before = vec_items c.args.all.now in
    let none : first - first ≡ 0 = omega arith in
    record {
      so_far = sym (ap (λ (n : ℕ). before ++ range_with_len first n) none ∙ append-nil before);
      few = omega arith;
    }

pub loop-cell-preserved : goal.loop-cell-preserved
loop-cell-preserved c =
    let first = c.args.cells.first in
    let cell = c.loop-cell.cell in
    let before = vec_items c.args.all.now in
    let more : cell + 1 - first ≡ cell - first + 1 = omega (arith, c.loop-cell.auto.cell) in
    record {
      so_far = c.in_ok-push.ensures.items
          ∙ ap (λ (l : List ℕ). l ++ cell ∷ []) c.loop-cell.invariant.so_far
          ∙ append_assoc before (range_with_len first (cell - first)) (cell ∷ [])
          ∙ ap (λ (l : List ℕ). before ++ l) (sym (ap (range_with_len first) more
          ∙ range_more first (cell - first) cell (omega (arith, c.loop-cell.auto.cell))));
      few = omega (arith, c.loop-cell-test.true);
    }

pub returns : goal.returns
returns c =
    let cells = c.args.cells in
    let same : c.loop-cell.cell - cells.first ≡ cells.end - cells.first =
    omega (arith, c.loop-cell.invariant.few, c.loop-cell-test.false) in
    c.loop-cell.invariant.so_far
    ∙ ap (λ (n : ℕ). vec_items c.args.all.now ++ range_with_len cells.first n) same
