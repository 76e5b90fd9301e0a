use Rattle.std.proofs.Common.{◌∙◌, ◌≡◌, ◌+◌, ◌<◌, ◌^◌, ◌++◌, ℕ, ap, arith, append_assoc}
use Rattle.std.proofs.Common.{codes, decimal, length, get_or, rules}
use Rattle.pardo_answers.proofs.Cells.{far_cell}
use Rattle.pardo_answers.proofs.Ranges.{range_told}
use Rattle.pardo_answers.proofs.text.push_values.Goals as goal

pub loop-offset-preserved : goal.loop-offset-preserved
loop-offset-preserved c =
    let few : length c.args.cells.now < 2 ^ 63 = search rules in
    let value : c.from.result ≡ get_or c.args.cells.now
    (c.args.first + c.loop-offset.offset) 0 =
    c.from.ensures ∙ c.value_at.ensures
    ∙ far_cell c.args.cells.now (c.args.first + c.loop-offset.offset)
    c.saturating_add-cell.result few c.saturating_add-cell.ensures in
    range_told (λ cell. codes " " ++ decimal (get_or c.args.cells.now cell 0))
    c.loop-offset.text.items c.push_labelled.new.text.items _
    (c.args.first + c.loop-offset.offset) _ _ _ (omega arith) (omega arith)
    (c.in_ok-push_labelled.ensures
    ∙ append_assoc c.loop-offset.text.items (codes " ") (decimal c.from.result) ∙
    ap (λ (n : ℕ). c.loop-offset.text.items ++ (codes " " ++ decimal n)) value)
    c.loop-offset.invariant
