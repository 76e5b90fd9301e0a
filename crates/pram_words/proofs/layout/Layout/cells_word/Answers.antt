use Rattle.std.proofs.Common.{◌≡◌, sym, ap, ◌∙◌}
use Rattle.pram_words.specs.declared.layout.Form.TheVariants.{Compact, Wide}
use Rattle.pram_words.specs.Words.{LayoutData}
use Rattle.pram_words.proofs.Numbering.{cells_compact, cells_wide}
use Rattle.pram_words.proofs.layout.Layout.cells_word.Goals as goal

pub returns-in-Compact : goal.returns-in-Compact
returns-in-Compact d = λ c below.
    let y = d.args.self.now in
    let form : y.form ≡ Compact =
    ap (λ (z : LayoutData). z.form) (sym d.self.view_is) ∙ d.in-Compact.is in
    cells_compact y c _ form d.first_place.ensures.value

pub returns-in-Wide : goal.returns-in-Wide
returns-in-Wide d = λ c below.
    let y = d.args.self.now in
    let form : y.form ≡ Wide d.in-Wide.field-0 =
    ap (λ (z : LayoutData). z.form) (sym d.self.view_is) ∙ d.in-Wide.is in
    cells_wide y d.in-Wide.field-0 c _ form below d.first_cell.ensures.value
