use Rattle.std.proofs.Common.{take}
use Rattle.pram_words.specs.Inner.Started.{HasStarted}
use Rattle.pram_words.proofs.layout.Layout.start_cells.Given as goal

abbrev pub invariant-loop-p : goal.invariant-loop-p
invariant-loop-p l = HasStarted l.self l.self.workers (take l.p l.placed) l.words
