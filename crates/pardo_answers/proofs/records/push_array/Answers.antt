use Rattle.std.proofs.Common.{◌∙◌, ◌≡◌, ◌+◌, ◌<◌, ◌^◌, ◌++◌, ℕ, ap, arith, refl}
use Rattle.std.proofs.Common.{length, get_or, rules}
use Rattle.pardo_answers.specs.Records.{place_record}
use Rattle.pardo_answers.proofs.Cells.{far_cell}
use Rattle.pardo_answers.proofs.Ranges.{range_told}
use Rattle.pardo_answers.proofs.records.push_array.Goals as goal

pub loop-index-preserved : goal.loop-index-preserved
loop-index-preserved c =
    let few : length c.args.cells.now < 2 ^ 63 = search rules in
    let value : c.value_at.result ≡ get_or c.args.cells.now
    (c.args.array.now.base + c.loop-index.index) 0 =
    c.value_at.ensures
    ∙ far_cell c.args.cells.now (c.args.array.now.base + c.loop-index.index)
    c.saturating_add-cell.result few
    (rw (← c.base.ensures) c.saturating_add-cell.ensures) in
    range_told
    (λ k. place_record c.args.array.now k
    (get_or c.args.cells.now (c.args.array.now.base + k) 0))
    c.loop-index.text.items c.push_place.new.text.items _ c.loop-index.index _ _ _ refl
    (omega (arith, ap length c.start-index-end.ensures))
    (c.in_ok-push_place.ensures
    ∙ ap (λ (n : ℕ). c.loop-index.text.items ++ place_record c.args.array.now c.loop-index.index n)
    value)
    c.loop-index.invariant
