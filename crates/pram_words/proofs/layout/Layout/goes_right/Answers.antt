use Rattle.pram_words.specs.Tree.{depth_of}
use Rattle.pram_words.proofs.Ways.{leaves_height}
use Rattle.pram_words.proofs.layout.Layout.goes_right.Goals as goal

pub goes_right-requires-clause-tree : goal.goes_right-requires-clause-tree
goes_right-requires-clause-tree c = (depth_of _, leaves_height _ c.self.invariant)
