use Rattle.std.proofs.Common.{◌≡◌, ap, ◌∙◌}
use Rattle.pram_words.specs.Words.{block_words, grain}
use Rattle.pram_words.proofs.Numbering.{grain_some}
use Rattle.pram_words.proofs.Rows.{blocks_most}
use Rattle.pram_words.proofs.layout.Layout.block.Goals as goal

pub returns-clause-most : goal.returns-clause-most
returns-clause-most c =
    let y = c.args.self.now in
    let limits = c.grain.ensures.limits in
    let words : c.block_words.result ≡ block_words (grain y) =
    c.block_words.ensures ∙ ap block_words c.grain.ensures.value in
    rw (c.first_block.ensures.value, words)
    (blocks_most y c.args.block limits (grain_some y limits) c.requires)
