use Rattle.std.proofs.Common.{rules}
use Rattle.pram_words.specs.Words.{length_of}
use Rattle.page_core.specs.Scenes.{word_in}
use Rattle.page_core.proofs.Buffers.{kept_set, written}
use Rattle.page_core.proofs.words.write_words.Goals as goal

pub loop-k-preserved : goal.loop-k-preserved
loop-k-preserved c = record {
  words = written (word_in c.args.world.now.layout c.args.world.now.words) c.loop-k.rows
      c.loop-k.k c.word_row.result (search rules) c.loop-k.invariant.words c.word_row.ensures;
  behind = kept_set (length_of c.args.world.now.layout) c.args.rows.now
      c.loop-k.rows c.loop-k.k c.word_row.result (search rules) c.loop-k.invariant.behind;
}
