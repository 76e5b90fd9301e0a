use Rattle.std.proofs.Common.{◌≡◌, ◌+◌, ◌<◌, ◌^◌, ◌∙◌, ℕ, ap, get_or, length, rules}
use Rattle.exercise_text.proofs.Cells.{far_cell, values_more}
use Rattle.exercise_text.proofs.values.values_in.Goals as goal

pub loop-index-preserved : goal.loop-index-preserved
loop-index-preserved c =
    let cells = c.args.cells.now in
    let few : length cells < 2 ^ 63 = search rules in
    values_more (λ k. get_or cells (c.args.array.now.base + k) 0) _ _ c.loop-index.index
    c.value_at.result c.loop-index.invariant c.in_ok-push.ensures.items
    (c.value_at.ensures ∙ far_cell cells (c.base.result + c.loop-index.index)
    c.saturating_add.result few c.saturating_add.ensures
    ∙ ap (λ (base : ℕ). get_or cells (base + c.loop-index.index) 0) c.base.ensures)
