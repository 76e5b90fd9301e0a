use Rattle.std.proofs.Common.{arith}
use Rattle.pram_words.proofs.Blocks.{grain_chosen}
use Rattle.pram_words.proofs.layout.grain_for.Goals as goal

pub returns-clause-grain : goal.returns-clause-grain
returns-clause-grain c =
    grain_chosen _ _ (omega (arith, c.min.ensures)) c.leaves.ensures.least
