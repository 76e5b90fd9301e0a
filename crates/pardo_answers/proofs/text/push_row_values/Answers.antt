use Rattle.std.proofs.Common.{◌≡◌, ◌∙◌, ◌<◌, ◌+◌, ◌*◌, ◌^◌, ◌++◌, ap, length, min, rules, ℕ, List}
use Rattle.pardo_answers.proofs.Cells.{row_values}
use Rattle.pardo_answers.proofs.text.push_row_values.Goals as goal

pub returns : goal.returns
returns c =
    let few : length c.args.cells.now < 2 ^ 63 = search rules in
    c.in_ok-push_values.ensures
    ∙ ap (λ (l : List ℕ). c.args.text.now.items ++ l)
    (row_values c.args.cells.now c.args.array.now.base (c.args.row * c.args.width)
    c.saturating_mul.result c.saturating_add-first.result c.args.width few c.saturating_mul.ensures
    (c.saturating_add-first.ensures
    ∙ ap (λ n. min (n + c.saturating_mul.result) 18446744073709551615) c.base.ensures))
