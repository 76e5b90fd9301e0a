use Rattle.std.proofs.Common.{◌≡◌, sym, ap, ◌∙◌, arith}
use Rattle.pram_words.specs.declared.layout.Form.TheVariants.{Compact, Wide}
use Rattle.pram_words.specs.Words.{LayoutData}
use Rattle.pram_words.proofs.Numbering.{own_compact, own_wide}
use Rattle.pram_words.proofs.layout.Layout.own_words.Goals as goal

pub returns-in-Compact : goal.returns-in-Compact
returns-in-Compact c =
    let y = c.args.self.now in
    let form : y.form ≡ Compact =
    ap (λ (z : LayoutData). z.form) (sym c.self.view_is) ∙ c.in-Compact.is in
    let cells = ap (λ (z : LayoutData). z.cells) c.self.view_is in
    let procs = ap (λ (z : LayoutData). z.procs) c.self.view_is in
    let first = c.first_place.ensures.value in
    let again = c.first_place-in-Compact.ensures.value in
    own_compact y c.args.i _ _ form
    (omega (arith, first, cells, procs, c.counters_at.ensures))
    (omega (arith, again, cells, c.register_at.ensures))

pub returns-in-Wide : goal.returns-in-Wide
returns-in-Wide c =
    let y = c.args.self.now in
    let form : y.form ≡ Wide c.in-Wide.grain =
    ap (λ (z : LayoutData). z.form) (sym c.self.view_is) ∙ c.in-Wide.is in
    own_wide y c.in-Wide.grain c.args.i c.row-counter.result form c.requires
    c.row-counter.ensures.value
