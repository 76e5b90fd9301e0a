use Rattle.pram_words.proofs.Numbering.{grain_some}
use Rattle.pram_words.proofs.Rows.{row_below}
use Rattle.pram_words.proofs.layout.Layout.row.Goals as goal

pub returns-clause-below : goal.returns-clause-below
returns-clause-below c =
    let y = c.args.self.now in
    let limits = c.grain-grain.ensures.limits in
    rw (c.block.ensures.value, c.grain-grain.ensures.value)
    (row_below y c.args.i c.args.row limits (grain_some y limits) c.requires.processor
    c.requires.row)
